mod GivenUp
mod Claiming
mod Serving
mod Stopping
mod Midst
mod Memory
pub mod Theorems
