pub mod Own
pub mod Shapes
pub mod Judged
