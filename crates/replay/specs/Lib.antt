pub mod Replayed
pub mod Lines
