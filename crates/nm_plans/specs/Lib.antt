pub mod Plan
pub mod Sets
pub mod Stands
