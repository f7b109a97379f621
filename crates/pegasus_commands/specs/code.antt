-- What the contracts of this crate's code say beside what the headline reaches.
-- What the contract of a command says, and the table of the commands.
pub mod CommandSpec
pub mod Commands
pub mod Moments
pub mod Course
pub mod InputSpec
pub mod Survey
pub mod Recorded
pub mod Ensembles
pub mod KeptTools
pub mod PlanRun
-- What is answered.
pub mod Fault
