pub mod Commanding
pub mod Outcomes
pub mod Theorems
pub mod Unique
