pub mod Right
pub mod Listing
pub mod Steps
pub mod Chosen
pub mod Counted
pub mod Placed
