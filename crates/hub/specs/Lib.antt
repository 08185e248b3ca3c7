pub mod Block
pub mod Cuts
pub mod Hub
pub mod Joiner
pub mod Promises
pub mod Refused
