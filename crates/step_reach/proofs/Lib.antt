pub mod VariableLaws
pub mod PlanLaws
pub mod EnterLaws
pub mod PlanUnique
pub mod ReplyLaws
pub mod Unique
