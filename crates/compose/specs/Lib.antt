pub mod Composed
pub mod Framed
