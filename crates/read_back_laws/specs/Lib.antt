pub mod ClaimsBack
pub mod ClaimsUnlisted
