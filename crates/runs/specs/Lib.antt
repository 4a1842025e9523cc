pub mod Paged
pub mod Devices
pub mod Runs
pub mod Planes
pub mod EitherOrder
pub mod Sessions
