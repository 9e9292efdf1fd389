pub mod Limits
pub mod Heads
pub mod Queues
pub mod Sides
pub mod Prices
pub mod Splices
