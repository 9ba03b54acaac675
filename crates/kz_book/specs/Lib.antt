pub mod Book
pub mod Visits
pub mod Acts
