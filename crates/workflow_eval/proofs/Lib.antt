pub mod FileTableLemmas
pub mod PlaceLemmas
pub mod JobLemmas
pub mod EvaluatingLemmas
