-- What a run promises, in the words of those who keep lists.
pub mod Promise
-- What its log shows of each source, and what holds of a source that is served whole.
pub mod Claims
