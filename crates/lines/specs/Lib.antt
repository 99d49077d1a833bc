pub mod Meant
pub mod Put
