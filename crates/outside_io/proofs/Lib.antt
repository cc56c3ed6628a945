pub mod ReadLemmas
pub mod TextLemmas
pub mod PartLemmas
pub mod AnswerLemmas
pub mod WriteLemmas
pub mod MomentLemmas
