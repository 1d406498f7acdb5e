pub mod PartNames
pub mod PartCalls
pub mod Lasting
