mod Quiet
mod Refusing
