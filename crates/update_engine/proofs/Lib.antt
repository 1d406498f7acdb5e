-- Cited by the crates above too: elements of lists, counts that stay, and a disk that tells.
pub mod Lists
-- Of this crate's own functions.
mod Naming
mod OnBoards
mod Beside
mod Committing
mod Gathered
mod Distinct
mod Finishing
mod LastCommit
mod CleanedUp
mod Ended
mod NewBoards
mod PutNames
mod Over
mod Begins
mod Stepping
mod Known
