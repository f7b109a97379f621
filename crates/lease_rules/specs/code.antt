-- What the contracts of this crate's code say beside what the headline reaches.
pub mod State
pub mod Law
-- What its list of entries says
pub mod Reading
pub mod Owning
pub mod Room
-- What a task's outputs and causes come to
pub mod Storing
pub mod Causes
