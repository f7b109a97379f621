pub mod Moments
-- What commands share: the documents and their survey, and the run of a plan.
pub mod Course
pub mod PlanRun
-- What only the code's own contracts say.
pub mod code
