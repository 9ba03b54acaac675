pub mod Packs
pub mod Joins
pub mod Loops
