pub mod Changes
pub mod Heads
pub mod Reasons
pub mod Rows
pub mod Taken
pub mod Beside
pub mod Planned
