pub mod Clearing
pub mod Jmpf
pub mod Sizing
pub mod OneNoted
pub mod TakeUp
pub mod Reading
pub mod Pinning
