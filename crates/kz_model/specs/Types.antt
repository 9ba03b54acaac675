-- Types, size classes, and the plan.
pub mod Class
pub mod Cover
pub mod Layouts
pub mod Plan
pub mod Planned
pub mod Share
