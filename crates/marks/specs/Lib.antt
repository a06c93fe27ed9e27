pub mod Tracer
pub mod Clear
pub mod Refusals
pub mod Taken
