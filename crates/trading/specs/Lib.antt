pub mod Written
pub mod Reached
pub mod Steps
pub mod Fits
