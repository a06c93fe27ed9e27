pub mod Puts
pub mod Bytes
pub mod Cut
pub mod Four
pub mod Hex
pub mod Same
