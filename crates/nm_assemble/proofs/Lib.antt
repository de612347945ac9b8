pub mod NewestLemmas
pub mod SaveLemmas
pub mod SureLemmas
mod SetLemmas
mod OwnLemmas
mod NumberingLemmas
