-- What public clauses cite. What a script makes of a file, and its refusals:
pub mod Refused
pub mod Edits
-- which bytes are scripts, and how hunks are spelled as lines:
pub mod Grammar
pub mod Spelling
-- which file an edit stands for:
pub mod Files
-- What serves the crate's own functions: one line of a script taken, and files as rows of known lines.
pub mod Taken
pub mod Segments
