pub mod Place
pub mod Proper
pub mod Runs
