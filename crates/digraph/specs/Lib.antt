-- What the public contracts say
pub mod Adjacency
pub mod Order
pub mod Distances
pub mod Cycle
-- What only the code's own contracts say.
pub mod code
