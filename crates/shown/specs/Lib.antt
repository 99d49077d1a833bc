pub mod Drawn
pub mod Moving
