pub mod Reduced
pub mod Interests
pub mod Sound
