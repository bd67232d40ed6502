pub mod Steps
pub mod OfRecords
pub mod WithinLetter
pub mod LettersAgree
pub mod Theorem
