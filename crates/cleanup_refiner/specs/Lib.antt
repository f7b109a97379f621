pub mod Cleans
-- What only the code's own contracts say.
pub mod code
