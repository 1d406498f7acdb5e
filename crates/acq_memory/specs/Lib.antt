-- Cited by public clauses: what a reader has to believe of the objects in memory.
pub mod Failing
pub mod FixedClock
pub mod MemSink
pub mod MemInlet
pub mod Held
pub mod MemFiles
pub mod MapMethod
pub mod MemEtc
pub mod MemTree
pub mod MemDisk
-- Cited by this crate's own functions and proofs alone.
pub mod Replay
