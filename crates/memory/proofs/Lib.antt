pub mod Props
pub mod Staying
pub mod Lent
