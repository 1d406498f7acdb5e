pub mod Headers
pub mod Lines
pub mod Complete
pub mod Sound
pub mod Stops
pub mod Laws
