pub mod Behind
pub mod Framer
pub mod Halves
pub mod Promises
pub mod Refused
pub mod Silence
pub mod Untouched
