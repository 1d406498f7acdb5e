-- Cited by the crates above too: what a crash leaves after a call, what holds at every moment of calls, and the frame of
-- calls one after another.
pub mod Crashes
pub mod Going
pub mod Framed
-- And the laws of a disk that keeps its changes: each state that it has had is sound, and the newest is what reads give.
pub mod Outcomes
pub mod NamesApart
pub mod Traces
-- And what a finite map of files is after a change, and how a choice is read.
pub mod FileMaps
pub mod Choices
-- Of this crate's own functions.
mod WholeFiles
mod Joining
