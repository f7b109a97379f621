pub mod NumbersLemmas
pub mod TouchingLemmas
pub mod CleanTaskLemmas
pub mod LawLemmas
