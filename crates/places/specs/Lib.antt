pub mod BodyStores
pub mod Lists
pub mod PlaceLists
pub mod PlaceSets
pub mod SendCounts
