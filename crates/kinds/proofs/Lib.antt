pub mod AgeingLaws
pub mod RecencyLaws
pub mod Reduced
