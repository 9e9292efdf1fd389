pub mod Fronts
pub mod Bounds
pub mod Found
