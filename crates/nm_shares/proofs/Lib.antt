mod NewLegLemmas
mod SharedLemmas
mod TwoLegs
