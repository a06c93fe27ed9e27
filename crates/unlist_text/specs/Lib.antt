pub mod Number
pub mod Unlisted
