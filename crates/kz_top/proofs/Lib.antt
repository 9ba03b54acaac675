pub mod Runs
pub mod Few
pub mod Outcomes
pub mod FirstFaults
pub mod Reading
