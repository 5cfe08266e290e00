pub mod Odds
pub mod OddLaws
