-- Document 01, "The plain machine". Everything here computes: a test is a `Bool`, a step is a function.
pub mod State
pub mod Place
pub mod Release
pub mod Tick
pub mod Edge
pub mod Step
pub mod Run
