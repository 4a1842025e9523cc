pub mod Seen
pub mod Rising
pub mod Listed
