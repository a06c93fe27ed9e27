pub mod ClaimsAnswersApart
pub mod Built
pub mod ClaimsMapAnswers
pub mod Stepped
pub mod ClaimsMapUpdate
pub mod ClaimsJoinMap
