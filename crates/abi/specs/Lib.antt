pub mod Filled
pub mod Outcomes
pub mod Salvaging
pub mod Slowly
