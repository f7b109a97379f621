pub mod TotalLemmas
pub mod TurnLemmas
pub mod OfferLemmas
pub mod CandidateLemmas
pub mod SelectingLemmas
pub mod PlacedLemmas
