pub mod AgeLaws
pub mod DropLaws
pub mod OnePlaceLaws
pub mod OriginationLaws
pub mod SecondLaws
