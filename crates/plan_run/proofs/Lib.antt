pub mod OutputLemmas
pub mod RunningLemmas
pub mod RunningManyLemmas
pub mod MembersLemmas
pub mod CrewLemmas
pub mod FinishingLemmas
