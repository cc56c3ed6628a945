pub mod Files
pub mod Laws
pub mod Counts
pub mod Made
pub mod Tables
pub mod Kept
