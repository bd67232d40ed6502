pub mod Characters
pub mod Counterparts
pub mod Fields
pub mod Records
pub mod Frames
pub mod SoundCharacters
pub mod Copies
pub mod ImageKept
