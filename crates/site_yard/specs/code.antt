-- What the contracts of this crate's code say beside what the headline reaches.
pub mod Changes
pub mod Truthful
pub mod Failures
pub mod Places
pub mod Kept
pub mod Delivered
pub mod Law
-- What the calls answer.
pub mod Returning
pub mod Moving
pub mod Loan
pub mod Lending
pub mod Opening
pub mod Reopening
pub mod Ending
pub mod Leased
pub mod Yard
pub mod Faults
