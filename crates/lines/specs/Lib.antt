pub mod Names
pub mod Input
pub mod Text
