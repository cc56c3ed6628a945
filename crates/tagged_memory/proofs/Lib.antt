pub mod Bytes
pub mod Words
pub mod Zips
pub mod Framing
