-- The laws that the proofs of this crate cite.
-- Assumes nothing.
pub mod Marks
pub mod Rows
pub mod Orders
pub mod Bounds
pub mod Claims
pub mod Ends
pub mod Reading
