pub mod Ends
pub mod Fillings
pub mod Fronts
pub mod Hears
pub mod Others
pub mod Sums
pub mod Words
