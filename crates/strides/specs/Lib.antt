pub mod Strode
