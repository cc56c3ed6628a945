pub mod Statements
pub mod Laws
pub mod Examples
