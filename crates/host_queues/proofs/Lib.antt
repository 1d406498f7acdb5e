pub mod Changes
pub mod Places
pub mod Turns
pub mod Orders
pub mod Single
pub mod Theorems
