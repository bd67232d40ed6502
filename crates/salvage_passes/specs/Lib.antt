pub mod Says
pub mod Writable
