pub mod Free
pub mod Taking
