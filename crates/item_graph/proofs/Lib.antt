pub mod Begun
pub mod OnePatch
pub mod Steps
pub mod Told
pub mod Whole
pub mod Soundness
pub mod Theorems
