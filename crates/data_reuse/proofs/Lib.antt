pub mod TestsLemmas
pub mod FlagsLemmas
pub mod AbsentLemmas
pub mod WalkLemmas
