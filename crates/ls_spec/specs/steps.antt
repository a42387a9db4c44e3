-- How the functions of the crate go about it, for the contracts of private functions alone. No public contract
-- rests on these definitions.
pub mod Finding
pub mod Fitting
