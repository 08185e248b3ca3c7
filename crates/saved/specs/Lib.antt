pub mod Promises
pub mod Saved
