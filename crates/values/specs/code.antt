-- What the contracts of this crate's code say beside what the headline reaches.
pub mod FileMap
pub mod SiteMap
pub mod Policy
pub mod Line
