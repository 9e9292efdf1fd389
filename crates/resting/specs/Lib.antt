pub mod Earned
pub mod Alone
pub mod Unmarked
pub mod Replenished
