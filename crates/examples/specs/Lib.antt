pub mod Unfolded
pub mod Orders
pub mod Rules
pub mod Told
pub mod Running
pub mod EitherOrder
pub mod Bench
