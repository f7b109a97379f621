-- What a run that ended Done comes to, and the clause of every call, from the top.
pub mod Headline
pub mod Read
pub mod Plan
pub mod Moments
-- What only the code's own contracts say.
pub mod code
