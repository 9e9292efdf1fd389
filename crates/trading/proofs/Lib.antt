pub mod Writing
pub mod Stepping
pub mod Walking
pub mod Touring
pub mod Closing
pub mod Bounded
pub mod Reaches
