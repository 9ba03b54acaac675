pub mod OwnReply
pub mod Cpu
pub mod Caught
pub mod Local
pub mod Cache
