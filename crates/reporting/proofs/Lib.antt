pub mod Done
pub mod Reports
