pub mod Marks
pub mod Meant
pub mod Entered
