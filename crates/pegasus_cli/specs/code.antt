-- What the contracts of this crate's code say beside what the headline reaches.
pub mod Joint
pub mod Call
pub mod Moments
-- How a call ends: its outcome, the line of that and its status.
pub mod Outcome
pub mod EnsembleLine
