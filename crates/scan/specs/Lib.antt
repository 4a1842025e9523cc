pub mod Taken
pub mod Notes
pub mod Judged
