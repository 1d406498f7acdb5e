mod Listings
mod Segments
mod KnownReads
