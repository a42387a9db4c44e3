-- How the functions of the crate go about it, for the contracts of private functions alone. No public contract
-- rests on these definitions.
pub mod Meeting
pub mod Search
pub mod Sizes
pub mod Widths
