pub mod Ranges
pub mod CharacterSet
pub mod Characters
pub mod Capitals
pub mod DataTypes
pub mod Number
