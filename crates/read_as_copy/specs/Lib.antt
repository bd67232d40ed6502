pub mod AsItsCopy
