pub mod Within
pub mod Places
pub mod Gates
pub mod Outcomes
pub mod Found
