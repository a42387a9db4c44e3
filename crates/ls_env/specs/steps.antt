-- What the code computes on the way, step by step. No public contract rests on it.
pub mod Gathered
pub mod Joining
pub mod Mentioned
pub mod Marking
