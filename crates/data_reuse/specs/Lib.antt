-- What the public contracts say
pub mod Absent
pub mod Kept
-- What only the code's own contracts say.
pub mod code
