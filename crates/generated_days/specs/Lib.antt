-- How much is asked of a mirror, and how an update over it goes on two days.
pub mod Asks
pub mod Days
-- What a log tells of such an update; a folder in which nothing is on its way, and the sizes of its files.
pub mod Clear
pub mod Sizes
pub mod Told
