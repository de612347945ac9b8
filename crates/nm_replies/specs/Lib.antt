pub mod Answer
pub mod Inside
pub mod SendFault
pub mod Sending
