-- Cited by the crates above too: what holds of each of a list, and of a board that is reached.
pub mod Walking
pub mod Asking
-- Of this crate's own laws.
pub mod Lines
pub mod Chains
pub mod Listed
pub mod Beside
pub mod Naming
pub mod Weighing
pub mod Counting
pub mod Theorems
