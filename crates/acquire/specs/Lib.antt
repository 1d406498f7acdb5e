-- What the program does with what it was started with.
pub mod Carried
