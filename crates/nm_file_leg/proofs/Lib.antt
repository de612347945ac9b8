pub mod BlockLemmas
pub mod CalledLemmas
pub mod LegLemmas
pub mod MarkLemmas
pub mod MediaLemmas
pub mod PeriodLemmas
pub mod PlaceLemmas
pub mod RememberedLemmas
pub mod RuleLemmas
pub mod RunLemmas
pub mod StandingLemmas
pub mod StepLemmas
pub mod WindowLemmas
mod Worked
