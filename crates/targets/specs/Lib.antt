pub mod Targets
pub mod At
pub mod Opening
pub mod Here
pub mod Ways
pub mod Asked
