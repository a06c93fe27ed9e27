pub mod ClaimsCode
pub mod ClaimsViews
pub mod Edges
pub mod ClaimsSound
pub mod ClaimsModesViews
pub mod ClaimsJoinViews
pub mod ClaimsBetweenViews
pub mod ClaimsCeilingsViews
