-- What the entries of a record say of the store.
pub mod Changes
pub mod Trace
pub mod Delivered
-- What the laws stand on.
pub mod Law
-- Why a run may fail, and what it leaves.
pub mod Faults
pub mod Leaving
-- What only the code's own contracts say.
pub mod code
