pub mod Bench
pub mod Cases
pub mod Delivery
pub mod Ends
pub mod Stories
pub mod Whole
