-- The definitions that the contracts cite, and nothing else: the laws over them stand in proofs/.
-- Assumes nothing.
pub mod Matrix
pub mod Range
pub mod Images
pub mod Claims
pub mod Results
pub mod Inner
