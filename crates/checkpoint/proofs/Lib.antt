pub mod Maps
pub mod Stored
pub mod Search
