pub mod Names
pub mod Requested
pub mod View
pub mod WellFormed
-- What only the code's own contracts say.
pub mod code
