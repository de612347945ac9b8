pub mod Messages
pub mod Streams
pub mod Calls
pub mod FirstRequest
pub mod HeadOff
pub mod Rows
pub mod Existence
