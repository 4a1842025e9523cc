pub mod Fields
pub mod Entering
pub mod Running
pub mod Redoing
