pub mod Walks
pub mod EdgeLaws
pub mod QueueLaws
pub mod RowLaws
pub mod WholeLaws
pub mod HomeLaws
