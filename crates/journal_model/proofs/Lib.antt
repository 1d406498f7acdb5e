-- Cited by the crates above too: which names calls may have, which stay in the folder, what a crash leaves of names and
-- bytes, steps carried out again, what stays while no gate is open, and which steps a record has.
pub mod Literals
pub mod FolderNames
pub mod Views
pub mod Twice
pub mod Aside
pub mod Fine
-- Cited by the crates above: a record is read as it was spelled, and a disk that has nothing to lose is at rest.
pub mod Again
pub mod Resting
-- The other laws.
mod Spelled
mod Places
-- Of this crate's own functions.
mod Loops
mod Names
mod Shorts
mod Texts
