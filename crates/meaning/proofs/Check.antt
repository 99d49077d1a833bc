pub mod Faults
pub mod Start
pub mod Answer
pub mod DemandThree
