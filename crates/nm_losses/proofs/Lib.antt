pub mod Attached
pub mod Crashed
pub mod Explained
pub mod Gated
pub mod Lists
pub mod Outlived
