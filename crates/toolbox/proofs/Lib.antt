pub mod LinesLemmas
pub mod NumberLemmas
pub mod SortedLemmas
pub mod DistinctLemmas
pub mod DealLemmas
pub mod HoldsLemmas
pub mod ColumnLemmas
