-- Laws of the definitions in specs/.
pub mod Reading
pub mod Same
