pub mod Laws
pub mod Cycle
