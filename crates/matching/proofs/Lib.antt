pub mod Reaching
pub mod Standing
pub mod Room
pub mod Renewing
pub mod Quiet
pub mod Arriving
