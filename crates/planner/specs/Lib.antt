pub mod Sites
pub mod Meaning
pub mod Deliveries
-- What only the code's own contracts say.
pub mod code
