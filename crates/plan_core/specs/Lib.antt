-- What the public contracts say
pub mod Words
pub mod Numbers
pub mod Kinds
pub mod Carried
pub mod Names
-- What only the code's own contracts say.
pub mod code
