pub mod Passed
pub mod Laws
pub mod Capped
pub mod Passes
