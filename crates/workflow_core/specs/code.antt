-- What the contracts of this crate's code say beside what the headline reaches.
pub mod Checking
pub mod Law
pub mod Names
pub mod Requested
pub mod WellFormed
