pub mod Own
pub mod Fault
