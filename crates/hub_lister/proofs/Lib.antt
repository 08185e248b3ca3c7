pub mod Events
pub mod Lines
pub mod Theorems
pub mod Unique
