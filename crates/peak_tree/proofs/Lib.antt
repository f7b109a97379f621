pub mod NumbersLemmas
pub mod NodeLemmas
pub mod ChangeLemmas
pub mod TreeLemmas
pub mod LawLemmas
