-- The document
pub mod MemberEntry
pub mod Root
pub mod Reader
pub mod Limits
pub mod Applying
-- The joint
pub mod Member
pub mod Joining
pub mod Workflows
pub mod Catalogues
pub mod Requests
pub mod Prefix
pub mod Jobs
pub mod Entries
pub mod Stated
-- What it means
pub mod Law
