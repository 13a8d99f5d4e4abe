pub mod Report
pub mod Numerals
pub mod Requests
