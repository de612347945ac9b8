pub mod SlotFile
pub mod FileState
pub mod Files
pub mod Errors
pub mod Renewing
pub mod SavingAll
pub mod Rereading
