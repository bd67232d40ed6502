pub mod Few
pub mod Said
pub mod Deciding
pub mod Writing
