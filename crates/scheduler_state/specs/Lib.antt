pub mod Pick
pub mod Counts
pub mod Bounds
pub mod Parts
pub mod Delays
