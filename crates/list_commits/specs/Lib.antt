-- What public clauses cite: the changes of a settled source, names that belong to no source, and commits made one after
-- another.
pub mod Changes
pub mod Loose
pub mod Made
-- And what laws and lemmas (proofs/Theorems) say: what changes make of the lists, which make one commit, and what that
-- commit makes of the lists.
pub mod SetLaws
pub mod RecordLaws
pub mod CarryLaws
