-- What the public contracts say
pub mod Draft
pub mod Tasks
pub mod Refined
-- What only the code's own contracts say.
pub mod code
