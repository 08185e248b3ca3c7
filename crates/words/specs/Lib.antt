pub mod Lists
pub mod Machine
