-- The laws that the proofs share, and the theorems that crates above cite.
-- Assumes nothing.
pub mod Signed
pub mod Store
pub mod Grid
pub mod Points
pub mod Theory
pub mod Ranges
pub mod Mapping
pub mod Breaking
pub mod Unique
pub mod Instances
