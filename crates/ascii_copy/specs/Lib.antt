pub mod CodePage037
pub mod AsciiCopy
