-- Document 01, "Zones": sets of states, the steps that leave them, and their tightest bounds.
pub mod Variables
pub mod Proper
pub mod Zone
pub mod Steps
pub mod Reached
pub mod Changes
pub mod Tightest
