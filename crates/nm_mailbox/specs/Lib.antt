pub mod Ends
pub mod Messages
pub mod Rule
