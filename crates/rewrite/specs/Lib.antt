-- What the program's one function answers.
pub mod Again
