pub mod SummaryLemmas
pub mod RegisteredLemmas
pub mod MosaicLemmas
pub mod PreparingLemmas
