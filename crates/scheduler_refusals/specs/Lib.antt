pub mod Due
pub mod Refusals
