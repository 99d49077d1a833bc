pub mod Plans
pub mod Replies
