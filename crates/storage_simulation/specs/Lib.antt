-- What the public contracts say
pub mod Goods
pub mod Standings
pub mod Usage
pub mod Following
pub mod Fitting
pub mod Ordering
pub mod OrderLaw
-- What only the code's own contracts say.
pub mod code
