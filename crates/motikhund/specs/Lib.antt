pub mod Blocks
pub mod Control
pub mod Lent
pub mod Numbers
pub mod Promises
pub mod Refused
pub mod Tables
