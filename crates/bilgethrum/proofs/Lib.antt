pub mod Kept
pub mod Opens
pub mod Arrives
pub mod Advances
pub mod Traces
pub mod Lists
pub mod Unique
pub mod Markers
