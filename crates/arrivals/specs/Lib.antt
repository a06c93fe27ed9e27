pub mod Index
pub mod Entered
pub mod ClaimsIndex
pub mod Arrivals
pub mod Search
