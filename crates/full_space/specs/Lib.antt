pub mod Own
pub mod Full
pub mod Steps
pub mod Shown
pub mod Laws
