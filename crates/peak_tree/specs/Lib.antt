-- What the public contracts say
pub mod Numbers
-- How a tree stands for a list
pub mod Node
pub mod Change
pub mod Tree
