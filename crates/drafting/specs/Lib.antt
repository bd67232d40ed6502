pub mod ByNumbers
pub mod DraftOf
