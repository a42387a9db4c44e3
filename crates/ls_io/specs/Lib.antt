pub mod Moves
pub mod Causes
pub mod Mem
