-- Resolving, and making objects, as the code goes, step by step. No public contract rests on it.
pub mod Running
pub mod Answering
pub mod Making
