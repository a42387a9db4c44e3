-- How the functions of the crate go about it, for the contracts of private functions alone. No public contract
-- rests on these definitions.
pub mod Turning
pub mod Words
pub mod Asking
pub mod Classes
pub mod Idle
pub mod Halves
pub mod Pairing
pub mod Marking
pub mod Filling
pub mod Index
