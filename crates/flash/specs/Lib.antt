pub mod Programs
pub mod Ranges
