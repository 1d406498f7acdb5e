pub mod EmptyLines
pub mod Lines
pub mod Parsed
pub mod Asking
