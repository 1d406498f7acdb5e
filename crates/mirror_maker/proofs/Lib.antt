pub mod Lines
pub mod Commands
pub mod Editing
pub mod Drawing
pub mod Remainders
pub mod Sound
