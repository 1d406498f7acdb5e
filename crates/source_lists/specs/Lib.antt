-- All of these are cited by public clauses, here and in the plan.
pub mod Steps
pub mod Values
pub mod OneLine
pub mod Stanzas
pub mod Texts
pub mod Files
pub mod Refused
pub mod Sound
