pub mod Entries
pub mod Nodes
pub mod Seconds
