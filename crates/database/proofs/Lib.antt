pub mod DropLaws
pub mod NodeLaws
