pub mod Unless
pub mod Frames
