pub mod TableLaws
pub mod TellingLaws
