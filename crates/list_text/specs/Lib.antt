pub mod Bytes
pub mod ClaimsInput
pub mod Entries
pub mod Text
pub mod Output
pub mod ClaimsOutput
pub mod Refusal
pub mod Decimal
