pub mod Entering
pub mod PlainList
pub mod Table
pub mod Calls
