pub mod Begun
pub mod Settled
