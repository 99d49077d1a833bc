pub mod Stands
pub mod Promise
pub mod ByCell
pub mod BySteps
pub mod ByPlace
pub mod Queues
pub mod BySeen
