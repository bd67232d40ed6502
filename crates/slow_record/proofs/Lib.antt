pub mod Laws
pub mod Dispatch
pub mod Types
