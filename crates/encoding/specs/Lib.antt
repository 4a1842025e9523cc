pub mod Encoding
pub mod Each
pub mod BytesBack
pub mod StateBack
