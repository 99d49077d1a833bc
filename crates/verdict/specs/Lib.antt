pub mod Answers
pub mod Judged
pub mod Kinds
pub mod Failing
pub mod AnsweredBy
