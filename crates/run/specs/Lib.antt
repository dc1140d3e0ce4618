pub mod Text
pub mod Apart
pub mod Most
pub mod Ran
pub mod Unique
