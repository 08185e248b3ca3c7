pub mod Pieces
pub mod Promises
pub mod Refused
pub mod Sender
