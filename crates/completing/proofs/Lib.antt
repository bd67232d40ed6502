pub mod Origins
pub mod Laws
pub mod Over
