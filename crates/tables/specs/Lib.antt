pub mod Searches
pub mod Verdicts
pub mod Wants
