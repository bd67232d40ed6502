pub mod Answers
pub mod CheckOrder
pub mod Rows
pub mod Reading
