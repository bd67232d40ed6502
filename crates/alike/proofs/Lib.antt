pub mod Alike
pub mod Figures
pub mod Agreement
