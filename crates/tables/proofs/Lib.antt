pub mod SearchLaws
pub mod WantLaws
