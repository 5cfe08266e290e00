pub mod EntryLaws
pub mod GroupLaws
pub mod IdLaws
