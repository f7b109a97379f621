-- What the contracts of this crate's code say beside what the headline reaches.
pub mod Candidates
pub mod Selecting
-- Steps
pub mod Stated
pub mod Carried
