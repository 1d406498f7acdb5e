-- What the public clauses cite: why there is no plan, what entries offer and ask for, and the plan.
pub mod Refusals
pub mod Groups
pub mod Offers
pub mod Drafts
pub mod Planned
pub mod Planning
pub mod Asked
-- Names told without their URIs.
pub mod Marks
-- What serves the crate's own functions: entries as groups see them.
pub mod Seen
