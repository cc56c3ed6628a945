pub mod Numbers
pub mod Grammar
pub mod Commands
pub mod Reading
pub mod Sayings
pub mod Examples
