-- What the shipped transformations make
pub mod Lines
pub mod Number
pub mod Transformation
pub mod Shipped
-- As many outputs as are asked for
pub mod AsMany
