pub mod Workflow
pub mod Linking
-- What only the code's own contracts say.
pub mod code
