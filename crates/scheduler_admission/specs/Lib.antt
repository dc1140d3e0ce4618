pub mod Admitted
pub mod Admit
pub mod Bounds
