pub mod ArrayLemmas
pub mod TrialLemmas
pub mod FreshLemmas
pub mod SumLemmas
pub mod BookLemmas
pub mod SizeLemmas
pub mod StateLemmas
