pub mod Numbers
pub mod Tested
pub mod Loaded
pub mod Start
pub mod Adding
pub mod StartLaws
pub mod StartExamples
