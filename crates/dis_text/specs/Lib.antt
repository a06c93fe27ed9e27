pub mod Word
pub mod Asked
pub mod Held
pub mod Message
pub mod Told
pub mod Output
pub mod ClaimsOutput
