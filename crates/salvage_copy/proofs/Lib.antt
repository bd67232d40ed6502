pub mod WalkedCopy
pub mod RunCopy
pub mod GroupsCopy
pub mod MarksCopy
pub mod ValuesCopy
pub mod SalvageOfCopy
