pub mod Faults
pub mod States
pub mod Contents
pub mod Memory
pub mod Parts
pub mod Answers
pub mod Moments
pub mod Laws
