pub mod Agreement
pub mod Cursor
pub mod Findings
pub mod Looks
pub mod Pairs
pub mod Runs
pub mod Verification
