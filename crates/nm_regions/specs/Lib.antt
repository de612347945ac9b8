pub mod LegFlags
pub mod Links
pub mod Table
pub mod Changes
pub mod Sound
pub mod Inside
pub mod Laws
