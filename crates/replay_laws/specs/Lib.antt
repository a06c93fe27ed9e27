pub mod ClaimsReplay
pub mod ClaimsBlocks
