pub mod Asked
pub mod Worlds
pub mod Calling
