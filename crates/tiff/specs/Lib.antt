pub mod Image
pub mod Required
pub mod Judged
