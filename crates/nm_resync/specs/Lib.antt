pub mod Chunk
pub mod Moves
pub mod Work
pub mod Laws
pub mod Inside
pub mod Lending
