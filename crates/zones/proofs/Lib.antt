pub mod Pages
pub mod Picks
pub mod Near
pub mod Wanted
pub mod Listed
pub mod Sliding
pub mod Torn
