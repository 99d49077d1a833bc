pub mod LineLaws
pub mod PartLaws
pub mod PlaceLaws
pub mod ReadLaws
pub mod FaultLaws
pub mod TextsLaws
pub mod Unique
pub mod Promise
