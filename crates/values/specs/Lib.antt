-- What the plain values mean.
pub mod FileMap
pub mod Apply
pub mod Printed
pub mod Numbers
pub mod Distinct
-- What only the code's own contracts say.
pub mod code
