pub mod ChoiceLaws
pub mod ChosenLaws
pub mod FormLaws
pub mod ShareLaws
pub mod WalkLaws
pub mod PlaceLaws
pub mod ListedLaws
