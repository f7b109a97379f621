-- What the contracts of this crate's code say beside what the headline reaches.
pub mod Adjacency
pub mod Digraph
pub mod Distances
pub mod Cycle
-- Steps of the algorithms
pub mod Scatter
pub mod Kahn
pub mod Search
pub mod Nearest
pub mod Ranks
