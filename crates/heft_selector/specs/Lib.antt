-- What the public contracts say
pub mod Costs
pub mod Candidates
pub mod Selecting
-- What only the code's own contracts say.
pub mod code
