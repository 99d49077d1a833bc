pub mod Laws
pub mod Unique
pub mod PutRows
pub mod WroteLaws
