pub mod Holding
pub mod Laid
pub mod Marked
pub mod Follows
pub mod Public
pub mod Unique
