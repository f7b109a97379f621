pub mod LookupLemmas
