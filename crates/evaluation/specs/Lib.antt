-- How an evaluation ends, from the top.
pub mod Evaluating
pub mod Moments
pub mod Sources
pub mod JobTools
pub mod Bases
pub mod Fault
-- The lines that tell the values.
pub mod ValueLines
