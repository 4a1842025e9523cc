pub mod Frames
pub mod Strides
pub mod Zones
