pub mod Sides
pub mod States
pub mod Following
