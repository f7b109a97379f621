pub mod FailsLemmas
pub mod FaultsLemmas
pub mod LostLemmas
pub mod ReplayingLemmas
mod RunsLemmas
mod TellingLemmas
pub mod RedoingLemmas
pub mod WorkingLemmas
pub mod ResumingLemmas
pub mod FinishingLemmas
