-- What the code computes on the way, step by step. No public contract rests on it.
pub mod Lent
pub mod Room
pub mod Begun
pub mod Turns
pub mod Filling
