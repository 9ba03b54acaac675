pub mod Gives
pub mod Tables
pub mod Shown
pub mod Granules
pub mod Laid
pub mod FieldPlaces
pub mod FieldLaws
pub mod PointerLaws
