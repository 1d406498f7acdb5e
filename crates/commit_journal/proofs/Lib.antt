-- Cited by the crates above too: a disk that stays idle, moments one after another, and what holds before, within and behind a
-- commit.
pub mod Fills
pub mod Turned
pub mod Prepares
pub mod Running
-- Of this crate's own functions.
mod Recovers
mod Carries
mod Besides
mod Looks
mod Turns
mod Finds
mod Lists
mod Others
mod Moved
mod Recordable
mod Stepping
mod Opens
mod Parted
mod Records
mod Notes
mod Allowed
mod Dropped
pub mod Theorems
