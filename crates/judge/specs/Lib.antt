pub mod Alone
pub mod ByNumbers
pub mod Image
