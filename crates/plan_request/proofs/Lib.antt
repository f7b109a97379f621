pub mod EntryLemmas
pub mod KnownLemmas
pub mod IndexLemmas
pub mod FileSizesLemmas
pub mod StepLemmas
pub mod LimitsLemmas
