pub mod Effects
pub mod Orderly
pub mod Supplied
pub mod Histories
pub mod Counts
