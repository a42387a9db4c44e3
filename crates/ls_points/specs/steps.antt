-- How the objects that stand for a class are found, for the contracts of private functions alone. No public
-- contract rests on these definitions.
pub mod Some
pub mod Characters
pub mod Symbols
pub mod Kinds
pub mod Numbers
pub mod Inheriting
