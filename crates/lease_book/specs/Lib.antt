-- What the calls of a book answer
pub mod Book
-- What arrays and trees show
pub mod RunState
pub mod Trial
pub mod Kept
