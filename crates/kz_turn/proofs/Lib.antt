pub mod Seats
pub mod Steps
pub mod Views
pub mod Stays
pub mod Passes
pub mod Closes
