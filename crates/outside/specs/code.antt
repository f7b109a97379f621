-- What the contracts of this crate's code say beside what the headline reaches.
-- What the traits mean.
pub mod Counts
pub mod Store
pub mod Docs
pub mod Sink
pub mod Host
pub mod Parts
pub mod Lending
pub mod Tool
-- What the objects in memory hold, for tests of what stands above.
pub mod Failing
pub mod MemoryDocs
pub mod MemorySink
pub mod MemoryParts
pub mod MemoryHost
