pub mod Refused
pub mod Remainders
