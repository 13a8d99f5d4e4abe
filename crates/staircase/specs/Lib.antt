pub mod Limits
pub mod Of
pub mod Counting
pub mod Tables
pub mod Streams
pub mod Runs
pub mod Promise
