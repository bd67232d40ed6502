pub mod History
pub mod Standing
