pub mod Known
pub mod Boards
pub mod Laws
pub mod Callers
pub mod Entered
pub mod Live
pub mod Examples
