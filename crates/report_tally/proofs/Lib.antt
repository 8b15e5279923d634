-- The laws of the definitions in specs/.
pub mod RefusalOther
pub mod RowsPut
