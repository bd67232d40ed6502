pub mod Skipping
pub mod Entries
