pub mod Places
pub mod Cutting
pub mod LegSetLemmas
