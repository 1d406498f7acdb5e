pub mod Pieces
pub mod Mirrored
pub mod Words
pub mod JoinedWords
