-- What each call makes of a board:
pub mod Keys
pub mod Slots
pub mod Settling
pub mod Boards
-- whole runs of calls:
pub mod Runs
pub mod Jobs
pub mod Reached
pub mod ReadAnew
pub mod Uses
-- what laws and lemmas (proofs/Theorems) say:
pub mod Stands
pub mod Ends
pub mod Changes
pub mod Agreeing
pub mod Laws
pub mod CallLaws
pub mod SetLaws
pub mod RunLaws
pub mod NameLaws
pub mod CountLaws
pub mod CauseLaws
