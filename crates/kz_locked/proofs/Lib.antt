pub mod Backs
pub mod Grants
pub mod Shares
pub mod Since
pub mod Visits
pub mod MoreStays
