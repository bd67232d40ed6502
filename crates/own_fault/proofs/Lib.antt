pub mod SameBefore
pub mod SameReading
pub mod Outcomes
pub mod Theorem
