pub mod IndexLemmas
pub mod SeatingLemmas
