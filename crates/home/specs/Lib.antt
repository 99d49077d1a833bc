pub mod Stands
pub mod Asked
pub mod ByCell
