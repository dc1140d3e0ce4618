pub mod Told
pub mod Onward
pub mod Demanded
pub mod Accounted
pub mod Unchanged
pub mod Queued
