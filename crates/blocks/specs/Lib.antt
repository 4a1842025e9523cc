pub mod Blocks
pub mod Padded
