pub mod Turns
pub mod Offers
pub mod Candidates
pub mod Selecting
-- What only the code's own contracts say.
pub mod code
