pub mod CappedOutcome
pub mod JudgedRow
