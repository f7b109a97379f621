pub mod TestLemmas
pub mod NumbersLemmas
pub mod RisingLemmas
pub mod GroundedLemmas
mod SettlingLemmas
mod PairLemmas
mod CarriedLemmas
mod LawLemmas
mod SortingLemmas
mod FilesLemmas
mod FilePairLemmas
mod TablesLemmas
mod TasksLemmas
mod ListingLemmas
mod FlowLemmas
mod CheckingLemmas
