pub mod Parts
pub mod Policies
pub mod Right
pub mod OneProof
pub mod Held
