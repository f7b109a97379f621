-- What the public contract says.
pub mod Filling
pub mod Making
pub mod Moving
pub mod Pieces
pub mod Computing
-- What its parts answer.
pub mod Running
pub mod Table
