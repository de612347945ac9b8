pub mod PlaceLemmas
pub mod Pushing
