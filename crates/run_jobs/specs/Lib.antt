-- What public clauses cite: what a run is between two of its steps,
pub mod Running
-- what is on the disk of what a board wants,
pub mod Coupling
-- what is left of the lists on their way,
pub mod OnTheWay
-- how faults are told,
pub mod Counting
-- of which mirror the methods tell,
pub mod Mirrors
-- and why a run gives no log.
pub mod Refusals
-- For proofs: what the fetch of one job does to the disk.
pub mod Fetching
