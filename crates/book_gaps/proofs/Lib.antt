pub mod Laws
pub mod Closing
pub mod Placing
pub mod Stored
