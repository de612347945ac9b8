pub mod CommandLine
pub mod ControlLine
pub mod Feeding
pub mod Settings
pub mod OptionRows
