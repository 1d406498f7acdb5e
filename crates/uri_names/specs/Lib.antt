-- All of these are cited by public clauses.
pub mod Errors
pub mod Parts
pub mod Reading
pub mod Refused
pub mod Folder
pub mod DotSegments
pub mod Redirect
pub mod Names
pub mod Normal
