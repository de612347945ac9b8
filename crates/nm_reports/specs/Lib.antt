pub mod Address
pub mod MirrorCall
pub mod StartFault
pub mod SuperblockNames
pub mod Unread
