-- With what a run begins, its commits, runs, what their sources come to, and what laws and lemmas (proofs/Theorems) say.
pub mod Asked
pub mod Beginnings
pub mod Begun
pub mod Coming
pub mod Groups
pub mod InTurn
pub mod Laws
pub mod Runs
