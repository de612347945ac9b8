pub mod Bytes
pub mod Call
pub mod Fuse
pub mod HandedOut
pub mod Leg
pub mod LegCalls
pub mod TestLegs
