pub mod ReadAsGood
pub mod RunShape
pub mod SoundRuns
