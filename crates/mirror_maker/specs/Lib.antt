-- All of it is what the public call's clauses cite.
pub mod Draws
pub mod Packages
pub mod Lists
pub mod Texts
pub mod Rows
pub mod Made
pub mod Patch
