pub mod Walked
pub mod Runs
pub mod Kept
pub mod Salvaged
pub mod Promises
