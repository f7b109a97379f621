pub mod NamesLemmas
pub mod CheckingLemmas
pub mod LawLemmas
