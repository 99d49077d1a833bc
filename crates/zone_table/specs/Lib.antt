pub mod Kept
pub mod Sound
pub mod Read
