-- What the contracts of this crate's code say beside what the headline reaches.
pub mod RunPolicy
pub mod Index
pub mod Limits
