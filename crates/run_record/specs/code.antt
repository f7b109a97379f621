-- What the contracts of this crate's code say beside what the headline reaches.
pub mod Events
pub mod RecordText
-- The lines of a text
pub mod Lines
-- The line of a failed run
pub mod FailedLine
-- Where a text is the text of no record
pub mod Fault
-- How a record keeps its events
pub mod History
-- The words of a line
pub mod Words
-- How a line is read
pub mod Reading
-- How far a text is read
pub mod Parser
