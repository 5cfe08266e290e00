pub mod Bundles
pub mod Elements
pub mod Readings
pub mod Summaries
pub mod Views
pub mod Walks
