-- Public clauses cite Request, Fields, Meaning, Forms, Plain, Stream, BodyLaws, Grammar, State and Wire. Steps serves the crate's own
-- functions alone.
pub mod Request
pub mod Fields
pub mod Meaning
pub mod Forms
pub mod Plain
pub mod Stream
pub mod BodyLaws
pub mod Grammar
pub mod State
pub mod Wire
pub mod Steps
