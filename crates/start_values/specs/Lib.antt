-- What a process was started with, what a program makes of it, and what it tells where it can't be read.
pub mod Environment
pub mod Start
pub mod Refused
pub mod Telling
pub mod MemEnvironment
-- Cited by the real environment's own function alone.
pub mod RealEnvironment
