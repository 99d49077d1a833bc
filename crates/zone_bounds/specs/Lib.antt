pub mod Narrowed
pub mod Entries
