-- What a record says, and what may come next
pub mod State
pub mod Choice
pub mod Legal
pub mod Law
pub mod Owning
-- What only the code's own contracts say.
pub mod code
