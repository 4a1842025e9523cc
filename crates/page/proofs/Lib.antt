pub mod Words
pub mod Storing
pub mod Difference
pub mod Taken
