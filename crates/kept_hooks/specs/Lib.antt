pub mod Picking
pub mod Judging
