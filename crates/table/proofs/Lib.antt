pub mod Answering
pub mod Changing
pub mod Finding
pub mod Theorems
pub mod Unique
