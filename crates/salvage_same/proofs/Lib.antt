pub mod Walk
pub mod Shape
pub mod Sections
pub mod Letters
pub mod Values
pub mod Lost
pub mod Again
pub mod Promised
