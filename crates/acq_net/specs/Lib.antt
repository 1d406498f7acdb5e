-- Cited by public clauses.
pub mod Talk
pub mod Due
pub mod LinkFrame
pub mod OverLink
pub mod Talks
pub mod PortFrame
pub mod Calls
pub mod Script
pub mod ScriptLink
pub mod MemPort
pub mod TcpLink
pub mod TcpPort
