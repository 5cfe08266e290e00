pub mod Lines
pub mod Machine
pub mod Progress
pub mod Tables
