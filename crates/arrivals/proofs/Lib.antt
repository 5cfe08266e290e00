pub mod BundleLaws
pub mod LineLaws
pub mod ReadingLaws
pub mod SearchLaws
pub mod SummaryLaws
pub mod WalkLaws
pub mod WantLaws
