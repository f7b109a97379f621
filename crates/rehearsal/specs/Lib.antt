-- The workload of a rehearsal, surveyed, with the store of its images.
pub mod Preparing
-- The text of a rehearsal that is done.
pub mod Summary
-- What is looked for in the workload.
pub mod Registered
pub mod Mosaic
