pub mod JoiningLemmas
pub mod LookupLemmas
