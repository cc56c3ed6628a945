pub mod SchedulesWithin
pub mod QuantaLemmas
