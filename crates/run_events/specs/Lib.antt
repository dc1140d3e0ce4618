pub mod Calls
pub mod Plays
pub mod Trace
pub mod Tells
pub mod Most
