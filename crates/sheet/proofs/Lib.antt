pub mod Parts
pub mod Slots
pub mod Laws
