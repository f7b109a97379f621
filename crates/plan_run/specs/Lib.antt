-- What a run of a plan is, and how its end and its text are read off its record.
pub mod Moments
pub mod Running
pub mod RunText
-- What keeps a run from its end.
pub mod Finishing
-- What only the code's own contracts say.
pub mod code
