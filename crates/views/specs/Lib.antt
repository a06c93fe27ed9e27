pub mod Positions
pub mod View
pub mod Mask
pub mod Labels
pub mod DataRun
pub mod Unmasked
pub mod Overlaps
