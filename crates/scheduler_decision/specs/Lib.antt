pub mod Started
pub mod Decide
pub mod Bounds
