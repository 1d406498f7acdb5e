-- What contracts cite, here and in the crates above.
pub mod Digits
pub mod Sum
pub mod Uri
pub mod Words
pub mod Mirror
pub mod Fetch
pub mod Plan
pub mod Settings
