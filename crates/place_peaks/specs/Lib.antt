-- The values of an order
pub mod Values
-- Those of a plan's order at a place
pub mod Places
-- What trees say of a state
pub mod Stack
pub mod Peaks
-- Calls on one tree
pub mod Tree
-- The Choice
pub mod Ready
pub mod Choosing
-- What each entry changes
pub mod Granting
pub mod Cleaning
pub mod Waiting
pub mod Links
pub mod Settling
-- Each entry of a record
pub mod Entries
pub mod Renewing
