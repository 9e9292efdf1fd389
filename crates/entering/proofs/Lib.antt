mod Judged
mod Ruled
mod Still
mod Room
mod Ending
mod Followed
