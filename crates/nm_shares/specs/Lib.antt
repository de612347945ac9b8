pub mod SharedMedium
