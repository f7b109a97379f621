-- What the contracts of this crate's code say beside what the headline reaches.
pub mod Goods
pub mod Standings
pub mod Following
pub mod Fitting
pub mod Ordering
pub mod Law
pub mod Ordered
-- Steps of a fit
pub mod Change
pub mod Past
-- Steps of an order
pub mod Front
pub mod Index
pub mod Bench
pub mod Choosing
pub mod Placing
