pub mod Tightest
pub mod Changes
pub mod Home
pub mod Listed
pub mod OnePlace
pub mod Given
pub mod Choices
pub mod Counting
