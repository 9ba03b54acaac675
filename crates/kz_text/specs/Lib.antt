pub mod Streams
pub mod Memory
pub mod Input
pub mod Lines
pub mod Tokens
