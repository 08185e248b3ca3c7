pub mod Lists
pub mod Loops
pub mod Machine
pub mod Unique
