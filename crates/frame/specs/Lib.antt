pub mod Lent
pub mod Ids
