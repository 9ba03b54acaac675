pub mod Shelf
pub mod Ordinals
pub mod Sets
