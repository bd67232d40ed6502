pub mod Walking
pub mod Sorts
