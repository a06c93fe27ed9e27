pub mod ClaimsLines
pub mod ClaimsShown
pub mod ClaimsRoom
pub mod ClaimsModesListing
