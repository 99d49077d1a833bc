pub mod Line
pub mod Wrote
pub mod Part
pub mod Texts
