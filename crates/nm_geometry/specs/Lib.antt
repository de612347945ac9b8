pub mod Geometry
pub mod Inside
pub mod Laws
pub mod Pieces
pub mod PieceLaws
pub mod LegSets
