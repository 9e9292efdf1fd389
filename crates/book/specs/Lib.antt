pub mod Promises
pub mod Alike
