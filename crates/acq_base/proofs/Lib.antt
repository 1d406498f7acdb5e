mod Examples
mod Planning
mod Sums
-- Cited by the crates above too.
pub mod Lists
pub mod Numbers
pub mod SameSums
pub mod Texts
pub mod Uris
