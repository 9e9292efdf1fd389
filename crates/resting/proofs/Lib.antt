mod Scans
pub mod Off
pub mod Low
pub mod Elsewhere
mod Mapping
pub mod Refilled
pub mod Renewed
