pub mod Counting
pub mod Lowest
pub mod Picking
pub mod Room
pub mod Carried
