pub mod Totals
pub mod Writing
