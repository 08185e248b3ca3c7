pub mod Lines
pub mod Listing
pub mod Promises
pub mod Session
pub mod Tokens
