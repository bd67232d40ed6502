pub mod Tree
pub mod Written
pub mod Sound
pub mod TypesInPlace
pub mod RowsAndTotals
pub mod Arranged
