pub mod Rows
pub mod Stores
