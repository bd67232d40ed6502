pub mod Histories
pub mod Separate
