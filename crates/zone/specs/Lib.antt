pub mod Stands
pub mod Promise
pub mod ByCell
