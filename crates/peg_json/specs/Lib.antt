pub mod Tree
pub mod Elements
pub mod Entries
pub mod Path
pub mod Table
pub mod Typed
pub mod Versions
pub mod Refused
pub mod Profiles
-- What only the code's own contracts say.
pub mod code
