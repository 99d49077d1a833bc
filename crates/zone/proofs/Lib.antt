pub mod EntryLaws
pub mod LendableLaws
pub mod Writes
pub mod ExactLaws
pub mod StateLaws
pub mod MadeLaws
pub mod Unique
