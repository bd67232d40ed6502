pub mod SameBytes
pub mod Alike
pub mod Run
pub mod Theorem
