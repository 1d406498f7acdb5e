-- Cited by public clauses: which files count, what their texts give, why a configuration is refused.
pub mod Names
pub mod Folder
pub mod Changes
pub mod Configured
pub mod Refusals
-- What serves the crate's own functions.
pub mod Answers
