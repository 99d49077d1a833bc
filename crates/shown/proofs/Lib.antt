pub mod SumLaws
pub mod StateLaws
pub mod LowestLaws
pub mod Unique
pub mod LateLaws
