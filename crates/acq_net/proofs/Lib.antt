pub mod LinkFramed
mod MemTalks
