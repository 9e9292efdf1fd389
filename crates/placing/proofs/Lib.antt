mod Kept
mod Rests
