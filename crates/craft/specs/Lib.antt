pub mod EntryNotes
pub mod Faulty
pub mod Notes
pub mod Placed
