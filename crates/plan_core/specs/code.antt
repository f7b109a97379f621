-- What the contracts of this crate's code say beside what the headline reaches.
pub mod Words
pub mod Numbers
pub mod Kinds
pub mod Proper
pub mod Files
pub mod Printing
pub mod Carried
pub mod Declined
pub mod Names
pub mod Grounded
-- Steps of the check
pub mod Rising
pub mod Tables
pub mod Tasks
pub mod Listing
pub mod Flow
