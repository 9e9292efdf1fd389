mod Making
mod Turned
