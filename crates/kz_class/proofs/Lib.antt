pub mod Points
pub mod Classes
