pub mod Places
pub mod RunAt
