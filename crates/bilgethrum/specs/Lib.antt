pub mod Promises
pub mod Lists
pub mod Unique
pub mod Markers
