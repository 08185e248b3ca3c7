pub mod Opcodes
pub mod Packet
pub mod Promises
pub mod Refusals
pub mod Sizes
