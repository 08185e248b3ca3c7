pub mod Judge
pub mod Marks
pub mod Sums
pub mod Theorems
pub mod Unique
pub mod Writing
