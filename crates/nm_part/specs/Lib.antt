pub mod PartState
pub mod Parts
pub mod Asking
