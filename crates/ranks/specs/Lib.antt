pub mod Dealt
pub mod Entries
pub mod Clear
pub mod Pass
pub mod Parts
pub mod InTurn
pub mod Best
pub mod Examples
