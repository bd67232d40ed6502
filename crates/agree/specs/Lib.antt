pub mod Checks
pub mod Links
pub mod Totals
pub mod Carried
