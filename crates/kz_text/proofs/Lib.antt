pub mod Cut
pub mod Spans
pub mod HexBytes
pub mod Marked
