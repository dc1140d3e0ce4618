pub mod Table
pub mod Longest
