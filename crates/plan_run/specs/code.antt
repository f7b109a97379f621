-- What the contracts of this crate's code say beside what the headline reaches.
pub mod Moments
pub mod Running
pub mod Finishing
