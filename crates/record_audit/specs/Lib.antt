-- What an audit finds of a record, and the sums of its entries
pub mod Verdict
pub mod Sums
-- Their texts
pub mod Text
-- Which part of a document is read as a record
pub mod Part
-- How the sums are kept from entry to entry
pub mod Holdings
-- Steps of a replay
pub mod Replaying
pub mod Causes
