pub mod Chunk
pub mod Kept
