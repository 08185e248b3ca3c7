pub mod Moments
pub mod Promises
pub mod Reader
pub mod Refused
