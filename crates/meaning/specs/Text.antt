-- The texts: what a number, a line, a record, a model's text, a proposal's text and a reader's answer are.
-- Assumes nothing.
pub mod Choice
pub mod Ranges
pub mod Refusals
pub mod Numerals
pub mod Lines
pub mod Records
pub mod ModelText
pub mod RightModel
pub mod ModelTable
pub mod ModelReader
pub mod RecordRow
pub mod ProposalText
pub mod RightProposal
pub mod ProposalTable
pub mod ProposalReader
