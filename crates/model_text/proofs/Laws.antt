-- The laws that the proofs of this crate cite.
-- Assumes nothing.
pub mod Marks
pub mod Rules
pub mod Slots
pub mod Taking
pub mod Answering
pub mod Writing
pub mod Giving
pub mod Once
