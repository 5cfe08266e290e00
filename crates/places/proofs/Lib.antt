pub mod ListLaws
pub mod PlaceSetLaws
pub mod RowLaws
pub mod StoreLaws
