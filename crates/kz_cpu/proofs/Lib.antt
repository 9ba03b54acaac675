pub mod OwnAnswers
pub mod OnlyItsName
pub mod Bindings
pub mod Steps
