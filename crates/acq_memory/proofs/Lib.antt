-- Of this crate's own functions.
mod HeldFiles
mod Torn
mod Worlds
mod Named
mod Trace
mod Cells
mod NameMap
mod Replaying
mod Images
mod MapWords
mod ReadOn
