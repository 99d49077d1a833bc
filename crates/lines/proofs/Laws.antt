-- The laws that the proofs of this crate cite.
-- Assumes nothing.
pub mod Numbers
pub mod Reading
pub mod Stops
pub mod Putting
pub mod Once
