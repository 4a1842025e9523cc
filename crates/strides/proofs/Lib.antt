pub mod Slides
pub mod Carried
pub mod Within
