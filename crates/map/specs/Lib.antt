pub mod Bits
pub mod Words
pub mod Ask
pub mod Packed
pub mod Build
pub mod Update
