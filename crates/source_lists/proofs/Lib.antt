pub mod Cuts
pub mod Loops
pub mod Laws
pub mod NextWords
pub mod Replaced
pub mod Choices
pub mod ReadLines
pub mod SoundEntries
