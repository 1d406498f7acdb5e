mod Texts
mod Requests
mod Asked
mod Replies
mod Meanings
-- Cited by the crates above too.
pub mod Mirrors
pub mod Law
-- A link to the server.
mod OneRequest
mod Pieces
mod Links
