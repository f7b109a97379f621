pub mod Catalog
pub mod Lookup
-- What only the code's own contracts say.
pub mod code
