pub mod Nearest
pub mod InPlace
pub mod Pieces
