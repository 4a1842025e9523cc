pub mod Loops
pub mod Kept
