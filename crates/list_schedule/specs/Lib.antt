-- What the public contracts say
pub mod Estimates
pub mod Ranks
pub mod Schedule
-- What only the code's own contracts say.
pub mod code
