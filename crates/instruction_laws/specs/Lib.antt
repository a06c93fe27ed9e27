pub mod Matching
pub mod Sizes
pub mod PartsMade
pub mod RoundTrips
pub mod Missing
pub mod Resolving
pub mod Modes
pub mod Apart
