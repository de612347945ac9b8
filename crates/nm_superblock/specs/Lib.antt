pub mod Layout
pub mod Identities
pub mod Bounds
pub mod Sectors
pub mod Slots
pub mod Damage
pub mod Spans
