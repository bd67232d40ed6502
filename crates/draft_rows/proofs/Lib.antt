pub mod Origins
pub mod Rows
pub mod Parts
