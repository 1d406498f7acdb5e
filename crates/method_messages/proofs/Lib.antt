pub mod Cuts
pub mod Ended
pub mod Open
pub mod Going
pub mod Machine
pub mod OneReading
pub mod Sizes
pub mod WrittenAgain
