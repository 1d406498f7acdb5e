-- What public clauses cite: what is known of the sums that a Release lists,
pub mod Readings
-- how much is asked of a source,
pub mod Sources
-- which jobs may be handed to a method,
pub mod Fetching
-- and what the names of lists are.
pub mod Names
