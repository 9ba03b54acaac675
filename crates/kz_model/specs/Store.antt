-- What is kept short.
pub mod NameTable
pub mod Recent
pub mod Replies
pub mod Traces
pub mod TypeLines
