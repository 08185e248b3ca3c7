pub mod Beeps
pub mod Commands
pub mod Promises
