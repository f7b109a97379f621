-- What the contracts of this crate's code say beside what the headline reaches.
pub mod Graph
pub mod Ranking
pub mod Built
pub mod Value
pub mod Flow
-- Steps of the building
pub mod Makers
pub mod Sources
