pub mod Anew
pub mod Changed
pub mod Askers
pub mod Waiting
pub mod Ready
pub mod Begun
