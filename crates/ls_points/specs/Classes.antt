-- Classes of objects by their shape, and the atoms that count for the number of representatives of a class.
use Rattle.std.specs.Prelude.{ℕ, ◌+◌, Bool, true, false, if◌then◌else◌, List, [], ◌∷◌}
use Rattle.ls_object.specs.Universe.{LispObject, node, number, character, symbol, structure, opaque, Structures, IsStructureOf}
use Rattle.ls_spec.specs.declared.spec.Point.TheVariants as point
use Rattle.ls_spec.specs.Fits.{IsAtom, IsWithinLimits, Fits}
use Rattle.ls_spec.specs.Specifier.{Specifier, eql_to, range_of, kind_of, structure_under, any_structure}

-- numbers, characters, symbols and opaque objects, with any marks
abbrev pub IsNumber : LispObject → Type 0
IsNumber (node marks (number n d)) = Unit {0}
IsNumber _ = ⊥

abbrev pub IsCharacter : LispObject → Type 0
IsCharacter (node marks (character c)) = Unit {0}
IsCharacter _ = ⊥

abbrev pub IsSymbol : LispObject → Type 0
IsSymbol (node marks (symbol s)) = Unit {0}
IsSymbol _ = ⊥

abbrev pub IsOpaque : LispObject → Type 0
IsOpaque (node marks (opaque k)) = Unit {0}
IsOpaque _ = ⊥

-- a structure of one of the structure types
abbrev pub IsStructure : Structures → LispObject → Type 0
IsStructure structures (node marks (structure x)) = IsStructureOf structures x
IsStructure structures _ = ⊥

-- an atom within the limits, whatever structure names stand in it
abbrev pub IsFitAtom : Specifier → Type 0
IsFitAtom s = IsAtom s × IsWithinLimits s

-- the same with structure names of the list
abbrev pub IsFitAtomOf : Structures → Specifier → Type 0
IsFitAtomOf structures s = IsAtom s × Fits structures s

-- EQL of a number, of a character and of a symbol
abbrev pub is_number_point : Specifier → Bool
is_number_point (eql_to (point.Number r)) = true
is_number_point _ = false

abbrev pub is_character_point : Specifier → Bool
is_character_point (eql_to (point.Char c)) = true
is_character_point _ = false

abbrev pub is_symbol_point : Specifier → Bool
is_symbol_point (eql_to (point.Sym s)) = true
is_symbol_point _ = false

-- INTEGER or RATIONAL with bounds
abbrev pub is_range : Specifier → Bool
is_range (range_of k lo hi) = true
is_range _ = false

-- the opaque objects of one kind
abbrev pub is_kind : Specifier → Bool
is_kind (kind_of k) = true
is_kind _ = false

-- a structure name, or STRUCTURE-OBJECT
abbrev pub is_structure_atom : Specifier → Bool
is_structure_atom (structure_under name) = true
is_structure_atom any_structure = true
is_structure_atom _ = false

-- how many of the atoms pass the test
abbrev pub count_atoms : (Specifier → Bool) → List Specifier → ℕ
count_atoms test [] = 0
count_atoms test (a ∷ atoms) = (if test a then 1 else 0) + count_atoms test atoms
