-- Cited by the crates above: what an answer adds to a log, how faults of several methods are told, which files stay, one job,
-- lists on their way, and what boards know as installed.
pub mod Telling
pub mod Rising
pub mod Agreed
pub mod OnTheWay
pub mod Keeping
pub mod OneJob
pub mod StagedLists
pub mod Lists
