pub mod Addenda
pub mod Lines
pub mod Stated
pub mod Itself
pub mod Again
pub mod Copied
pub mod Found
pub mod Either
