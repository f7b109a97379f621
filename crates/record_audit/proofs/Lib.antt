pub mod CauseLemmas
pub mod ReplayLemmas
pub mod LawLemmas
pub mod SumLemmas
pub mod PartLemmas
pub mod HoldingsLemmas
