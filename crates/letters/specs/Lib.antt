pub mod Letters
pub mod OfArrangement
