pub mod Calls
pub mod Handshake
pub mod Later
pub mod Replies
