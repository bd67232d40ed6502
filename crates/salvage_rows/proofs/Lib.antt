pub mod Kept
pub mod Free
pub mod Control
