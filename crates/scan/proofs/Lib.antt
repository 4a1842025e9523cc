pub mod Listing
pub mod Visiting
pub mod Loops
pub mod Picked
pub mod Judging
