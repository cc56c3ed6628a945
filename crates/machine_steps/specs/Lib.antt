pub mod Numbers
pub mod Works
pub mod Steps
pub mod Runs
pub mod Laws
pub mod Examples
