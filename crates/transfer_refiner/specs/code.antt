-- What the contracts of this crate's code say beside what the headline reaches.
pub mod Draft
pub mod Tasks
pub mod Refined
pub mod Conditions
pub mod Singles
pub mod Meaning
-- Steps
pub mod View
pub mod Edges
pub mod Marked
pub mod Tables
pub mod Listing
pub mod Places
pub mod Steps
