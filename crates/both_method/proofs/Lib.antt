pub mod Joined
pub mod Own
