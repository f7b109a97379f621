-- What the public contracts say
pub mod Edges
pub mod Graph
pub mod Levels
pub mod Ranking
pub mod Built
pub mod Value
-- What only the code's own contracts say.
pub mod code
