pub mod Framed
