pub mod Little
pub mod Groups
