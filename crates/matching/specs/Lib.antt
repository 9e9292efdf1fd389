pub mod Meeting
pub mod Underway
