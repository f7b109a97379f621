-- What the contracts of this crate's code say beside what the headline reaches.
-- What the public contract says.
pub mod Alone
pub mod Tending
pub mod Turning
pub mod Working
pub mod Many
pub mod Inputs
pub mod Calls
pub mod Asking
pub mod Telling
pub mod Runs
-- What the laws stand on.
pub mod Law
-- What its parts answer.
pub mod Stepping
pub mod Hands
