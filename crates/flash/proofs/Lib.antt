pub mod Programming
pub mod Scanning
pub mod Ranges
