pub mod Entries
pub mod Sums
pub mod Kept
