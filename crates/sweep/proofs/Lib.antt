pub mod Covering
pub mod Waiting
pub mod Meeting
pub mod Passing
pub mod Inside
pub mod Sweeping
pub mod Sized
