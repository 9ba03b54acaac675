pub mod Uses
pub mod Stocks
pub mod Logs
pub mod Rooms
pub mod Gets
pub mod Grants
pub mod Views
pub mod Entries
