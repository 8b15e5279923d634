-- The laws of the definitions in specs/.
pub mod Fields
pub mod Grammar
pub mod LineEnd
pub mod LineLimit
pub mod Headers
pub mod WrittenEnds
pub mod Lines
pub mod Decimal
pub mod ReadBack
