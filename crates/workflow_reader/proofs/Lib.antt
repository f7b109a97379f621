pub mod FilesLemmas
pub mod DuplicatesLemmas
pub mod SizesLemmas
pub mod LinkingLemmas
pub mod StepLemmas
pub mod SmallLemmas
