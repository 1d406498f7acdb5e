-- Cited by public clauses.
pub mod Folder
pub mod Listing
pub mod RealClock
pub mod RealDisk
pub mod RealEtc
pub mod RealTree
pub mod RealInlet
pub mod RealFiles
-- Cited by this crate's own functions alone, but for what RealSink shows.
pub mod Answer
pub mod Opened
pub mod Ownership
pub mod RealSink
