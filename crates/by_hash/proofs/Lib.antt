pub mod Folders
pub mod Sound
