pub mod NumberLaws
pub mod NarrowLaws
pub mod LoopLaws
pub mod WrittenLaws
pub mod Unique
