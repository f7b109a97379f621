pub mod FileTable
pub mod Evaluating
