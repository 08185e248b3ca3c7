pub mod First
pub mod Forms
pub mod Reading
pub mod Theorems
pub mod Unique
pub mod Writing
