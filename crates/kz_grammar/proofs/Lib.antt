pub mod Rows
pub mod Marks
pub mod LineForms
pub mod Phrases
pub mod LabelForms
pub mod KindForms
pub mod BodyForms
pub mod TypeForms
pub mod Judgements
pub mod LaterFaults
pub mod Causes
pub mod TextForms
mod Members
mod Cases
mod RowFacts
mod NameRows
mod NameScan
mod RoundScan
mod TurnCounts
mod OrderScan
mod Laws
mod Traces
mod BundleNames
mod FoundTypes
mod BraceWalk
mod TypeScan
mod Turned
mod SoundNames
mod Pigeons
mod LinesStand
mod LinesSaid
