pub mod Telling
-- What only the code's own contracts say.
pub mod code
