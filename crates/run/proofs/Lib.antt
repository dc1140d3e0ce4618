pub mod Answers
pub mod Apart
pub mod Most
pub mod Unique
