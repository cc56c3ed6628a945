pub mod Numbers
pub mod Plan
