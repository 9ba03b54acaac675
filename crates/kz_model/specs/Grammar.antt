-- The grammar of bundles, and its reading.
pub mod Form
pub mod Spelling
pub mod Stages
pub mod Steps
pub mod Tokens
pub mod Turns
pub mod TypeLine
pub mod Valid
