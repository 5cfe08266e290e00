pub mod ComposeLaws
pub mod CountLaws
pub mod EntryLaws
pub mod FitLaws
pub mod GroupLaws
pub mod LengthLaws
