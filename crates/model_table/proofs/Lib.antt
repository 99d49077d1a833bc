pub mod CellLaws
pub mod CountLaws
pub mod GivenLaws
pub mod PartLaws
pub mod SignedLaws
