pub mod Forms
pub mod FormLaws
pub mod Names
pub mod Rounds
pub mod Declarations
pub mod NameLaws
pub mod BundleNames
pub mod LineNumbers
