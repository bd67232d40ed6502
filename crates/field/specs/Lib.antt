pub mod Values
pub mod Formats
pub mod RoutingForms
pub mod Rules
