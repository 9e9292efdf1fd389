pub mod Admitted
pub mod Queues
pub mod Answers
pub mod Memory
