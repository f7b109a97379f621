pub mod Request
pub mod FileSizes
pub mod JobTools
-- What only the code's own contracts say.
pub mod code
