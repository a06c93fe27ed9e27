mod Numbers
mod WordKinds
mod Takes
mod Asking
pub mod Shows
pub mod AskedEntries
pub mod ShownApart
pub mod ClaimsOutputOnly
pub mod ClaimsOutputFits
