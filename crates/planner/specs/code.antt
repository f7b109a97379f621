-- What the contracts of this crate's code say beside what the headline reaches.
pub mod Document
pub mod PlanFault
pub mod Refused
pub mod Catalogue
pub mod Course
pub mod Sites
pub mod Ordering
pub mod Planning
pub mod Meaning
pub mod Surveyed
pub mod Scheduling
pub mod Deliveries
pub mod SurveyText
