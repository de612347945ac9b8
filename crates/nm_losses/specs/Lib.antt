pub mod Crashing
pub mod Gated
pub mod Laws
pub mod Moves
pub mod Survive
