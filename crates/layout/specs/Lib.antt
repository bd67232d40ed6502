pub mod Layout
pub mod Layouts
pub mod Laid
pub mod Packing
pub mod Fault
