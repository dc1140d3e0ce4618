pub mod Letters
pub mod Plays
pub mod Tells
pub mod Traces
pub mod Most
