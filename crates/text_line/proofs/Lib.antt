pub mod Digits
pub mod Hexadecimals
