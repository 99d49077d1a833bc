pub mod RangeLaws
pub mod TableLaws
pub mod HeadLaws
pub mod TestLaws
pub mod PlaceLaws
pub mod StepLaws
