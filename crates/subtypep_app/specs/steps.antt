-- What the code computes on the way, step by step. No public contract rests on it.
pub mod Asking
pub mod Lines
pub mod Charging
pub mod Counting
pub mod Reporting
pub mod Finishing
