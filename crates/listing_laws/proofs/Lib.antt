pub mod ClaimsLinesListed
pub mod ClaimsShownTraced
pub mod ClaimsRoomBound
pub mod ClaimsLinesCode
pub mod ClaimsModesArrivals
pub mod ClaimsModesListing
pub mod NotQuestion
pub mod ClaimsModesQuestion
