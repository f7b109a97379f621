pub mod TreeLemmas
pub mod VersionsLemmas
pub mod TableLemmas
pub mod EntriesLemmas
pub mod PathLemmas
