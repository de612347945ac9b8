pub mod Message
pub mod Stream
pub mod Reader
pub mod First
pub mod ReceivedFields
pub mod ReaderFields
pub mod Judging
pub mod Faults
