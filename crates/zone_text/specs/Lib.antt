pub mod Marked
pub mod Rows
pub mod Held
pub mod Meant
pub mod Wrote
pub mod Over
