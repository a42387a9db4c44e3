-- How names are found, for the contracts of private functions alone. No public contract rests on these definitions.
pub mod Places
