pub mod Bounded
mod Stretches
pub mod Flat
mod Places
mod Laws
pub mod Facts
mod Lowering
mod Firsts
