pub mod Laid
pub mod Coded
pub mod Placed
pub mod Read
pub mod Taken
