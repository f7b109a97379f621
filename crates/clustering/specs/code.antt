-- What the contracts of this crate's code say beside what the headline reaches.
pub mod Singles
pub mod Numbers
pub mod Basis
pub mod Gathering
pub mod Runs
pub mod Condition
pub mod Labels
pub mod Cycles
pub mod Clusters
