-- What public clauses cite: which stanzas name a package file, how lists are read, and what the fetch of a file comes to and
-- leaves to a crash.
pub mod Filenames
pub mod Stanzas
pub mod Paragraphs
pub mod Landing
pub mod Causes
pub mod Refusals
-- For the crate's own functions: what stanzas come to while they are read, and where the asks for a file stand.
pub mod Founds
pub mod Asking
