pub mod Lines
pub mod Demands
pub mod Account
pub mod Queue
