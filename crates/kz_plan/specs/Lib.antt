pub mod Shown
pub mod Homes
pub mod Parts
pub mod Laws
pub mod Sharing
pub mod ShareLaws
pub mod ZoneLaws
