-- Of this crate's own functions: reading by paragraphs, cuts between lines, stanzas, what they come to, and names of files;
mod Readings
mod Cuts
mod Stanzaic
mod Joins
mod Fronts
mod Steps
mod Names
-- the states of a folder into which a file is fetched, and the asks for it.
mod States
mod Landings
mod Asks
mod Jobs
mod Ends
