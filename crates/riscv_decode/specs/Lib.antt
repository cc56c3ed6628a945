pub mod Words
pub mod Rows
pub mod Table
pub mod Code
pub mod Encoded
pub mod Opcodes
pub mod Decoded
pub mod RoundTrips
