-- What the contracts of this crate's code say beside what the headline reaches.
pub mod Offers
pub mod Candidates
pub mod Selecting
