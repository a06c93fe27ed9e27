pub mod ClaimsMap
pub mod ClaimsAnswers
pub mod ClaimsJoinMap
