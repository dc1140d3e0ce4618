pub mod Words
pub mod Lookable
pub mod Calls
pub mod Values
pub mod Machine
pub mod Stands
pub mod Promises
pub mod Agreement
