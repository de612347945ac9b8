pub mod Data
pub mod Laying
pub mod Record
pub mod RecordData
pub mod Records
pub mod Runs
pub mod Stored
