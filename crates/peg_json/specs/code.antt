-- What the contracts of this crate's code say beside what the headline reaches.
pub mod ReadFault
pub mod Entries
pub mod Tree
pub mod Table
pub mod Unknown
