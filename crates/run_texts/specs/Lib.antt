pub mod Schedules
pub mod Endings
pub mod Examples
