pub mod Numbers
pub mod Heads
