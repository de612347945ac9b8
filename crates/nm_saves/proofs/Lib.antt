pub mod Settling
pub mod Written
pub mod Rounds
pub mod ErrorLemmas
pub mod BothRounds
pub mod Reread
pub mod LegSetLemmas
