pub mod PipeCounts
pub mod MadePipes
pub mod Ends
pub mod Entries
pub mod Filling
pub mod Replacing
pub mod Beginning
pub mod Opening
