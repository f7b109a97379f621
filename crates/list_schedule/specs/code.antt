-- What the contracts of this crate's code say beside what the headline reaches.
pub mod Law
-- Steps
pub mod Tables
pub mod Arrivals
pub mod Board
