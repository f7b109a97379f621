-- The workload of n images: what is made of the tables and texts below
pub mod Making
-- Its files and its jobs, as tables
pub mod Workflow
-- Its request, its sites and transformations, and its images
pub mod Catalogues
pub mod Replicas
-- The text of a job, and lists by number
pub mod Jobs
-- The names of files, and the fixed pieces of the documents
pub mod Names
pub mod Pieces
