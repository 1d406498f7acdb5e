-- What public clauses cite: the objects at one moment, what is asked of a run, what is written, how a call ends,
pub mod Objects
pub mod Asked
pub mod Said
pub mod Ending
-- and what it promises.
pub mod Headline
-- What `generate` writes.
pub mod Generated
-- What is asked for beside updates.
pub mod Sides
-- What comes of a package file that is asked for.
pub mod Downloads
