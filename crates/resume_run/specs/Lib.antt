-- Definitions
pub mod Lost
pub mod Replaying
pub mod Redoing
pub mod Working
pub mod Resuming
pub mod Finishing
