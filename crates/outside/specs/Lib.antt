pub mod Docs
-- What only the code's own contracts say.
pub mod code
