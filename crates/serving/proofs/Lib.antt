pub mod SentLemmas
pub mod StreamLemmas
pub mod AnswerLemmas
pub mod GatherLemmas
pub mod WriteLemmas
pub mod ServeLemmas
