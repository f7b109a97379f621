-- What a case says of its calls.
pub mod Trace
