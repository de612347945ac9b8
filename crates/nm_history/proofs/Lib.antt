pub mod Acting
pub mod Covered
pub mod Flushed
pub mod Lists
pub mod Notes
pub mod Restarting
pub mod Told
pub mod Worked
