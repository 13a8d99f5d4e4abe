pub mod Text
pub mod Packed
