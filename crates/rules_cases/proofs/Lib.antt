pub mod Computed
pub mod Longest
