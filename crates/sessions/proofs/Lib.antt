pub mod Formats
pub mod Numbers
pub mod Programs
pub mod Digits
pub mod Cuts
pub mod Lines
