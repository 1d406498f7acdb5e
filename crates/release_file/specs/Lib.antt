-- What public clauses cite. What a Release says, and which bytes are none:
pub mod DateText
pub mod Release
pub mod Refused
-- what it lists, and which sum line is refused:
pub mod Listing
pub mod SumFaults
-- whether it may be installed beside the one before:
pub mod Dates
pub mod Changes
-- What serves the crate's own functions: one entry more of a list of files, and where fields stand.
pub mod Entries
pub mod Places
