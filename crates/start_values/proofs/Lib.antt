mod Folders
mod Lanes
mod Refusals
mod Texts
