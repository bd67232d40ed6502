pub mod Sections
pub mod Theorem
pub mod Addenda
pub mod Bodies
