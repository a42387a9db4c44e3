-- How the representatives are made, for the contracts of private functions alone. No public contract rests on these
-- definitions.
pub mod Alike
pub mod Representatives
