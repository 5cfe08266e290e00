pub mod Backs
pub mod Faithful
pub mod Reports
