pub mod SelectionLaws
