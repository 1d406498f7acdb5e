pub mod Files
pub mod Heard
pub mod ListEnds
pub mod Settled
