pub mod Received
pub mod Mirrors
pub mod Ending
pub mod Begins
pub mod Settled
