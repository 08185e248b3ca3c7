pub mod Characters
pub mod Endings
pub mod Lines
pub mod Reading
pub mod Rooms
pub mod Sessions
pub mod Unique
