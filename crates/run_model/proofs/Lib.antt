-- Cited by the crates above too: names of plans, how an item ends, verdicts, what is ready and what comes next.
pub mod Names
pub mod Loose
pub mod Ends
pub mod Counting
pub mod Ready
pub mod Finishing
pub mod Following
pub mod Stopping
-- Of this crate's own laws.
pub mod Always
pub mod Asking
pub mod Carrying
pub mod Cleaning
pub mod Hearing
pub mod Installed
pub mod Mirrors
pub mod Moments
pub mod Removing
pub mod Routes
pub mod Setting
pub mod Theorems
