pub mod Readying
pub mod Shares
pub mod Supply
pub mod Visits
pub mod TurnNames
pub mod Zone
