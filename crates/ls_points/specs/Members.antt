-- What the implementations of `Regions` say of themselves: over which structure lists, of which class, for which
-- atoms, when an object is in an atom, and how many objects are answered at most.
use Rattle.std.specs.Prelude.{ℕ, ◌+◌, ◌*◌, ◌≡◌, List, map}
use Rattle.ls_object.specs.Universe.{LispObject, Structures}
use Rattle.ls_spec.specs.declared.spec.Spec.{Spec}
use Rattle.ls_spec.specs.Meaning.{specifier}
use Rattle.ls_spec.specs.Membership.{Belongs}
use Rattle.ls_points.specs.Classes.{IsFitAtom, IsFitAtomOf, is_range, is_number_point, is_character_point, is_symbol_point, is_kind, is_structure_atom, count_atoms}

-- numbers, characters, symbols and opaque objects are the same over every structure list
abbrev pub IsOverEvery : Structures → Type 0
IsOverEvery structures = Unit {0}

-- the structures of a file are those of its own list
abbrev pub IsOverItsOwn : Structures → Structures → Type 0
IsOverItsOwn own structures = structures ≡ own

-- an atom within the limits may be asked about
abbrev pub IsFit : Spec → Type 0
IsFit a = IsFitAtom (specifier a)

-- of structures, one whose structure names are those of the list
abbrev pub IsFitIn : Structures → Spec → Type 0
IsFitIn own a = IsFitAtomOf own (specifier a)

-- an object is in an atom where it belongs to it
abbrev pub IsIn : Structures → Spec → LispObject → Type 0
IsIn structures a o = Belongs structures (specifier a) o

-- 4, 6 for each range and 3 for each number that is named
abbrev pub number_limit : List Spec → ℕ
number_limit atoms =
    4 + 6 * count_atoms is_range (map specifier atoms) + 3 * count_atoms is_number_point (map specifier atoms)

-- 4, and one for each character that is named
abbrev pub character_limit : List Spec → ℕ
character_limit atoms = 4 + count_atoms is_character_point (map specifier atoms)

-- 4, and one for each symbol that is named
abbrev pub symbol_limit : List Spec → ℕ
symbol_limit atoms = 4 + count_atoms is_symbol_point (map specifier atoms)

-- 4, and one for each kind that is named
abbrev pub kind_limit : List Spec → ℕ
kind_limit atoms = 4 + count_atoms is_kind (map specifier atoms)

-- 4, and one for each structure name and each STRUCTURE-OBJECT
abbrev pub structure_limit : List Spec → ℕ
structure_limit atoms = 4 + count_atoms is_structure_atom (map specifier atoms)
