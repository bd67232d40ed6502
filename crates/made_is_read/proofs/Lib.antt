pub mod Record
pub mod Whole
