pub mod Outcomes
pub mod Values
pub mod Completed
pub mod Drafted
pub mod Promises
pub mod Owned
