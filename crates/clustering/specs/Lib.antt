-- What the public contracts say
pub mod Singles
pub mod Numbers
pub mod Basis
pub mod Gathering
pub mod Runs
pub mod Labels
-- What only the code's own contracts say.
pub mod code
