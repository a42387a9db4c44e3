-- The cars and the cdrs of a list of specifiers (CONS).
use Rattle.std.specs.Prelude.{ℕ, suc, max, List, [], ◌∷◌}
use Rattle.std.specs.List.{flat_map}
use Rattle.ls_spec.specs.Specifier.{Specifier, all_objects, no_objects, and_of, or_of, not_of, eql_to, range_of, chars_of, symbols_of, kind_of, structure_under, any_structure, array_any, array_of, string_of, cons_of, satisfies, Specifiers, no_more, also}
use Rattle.ls_spec.specs.Atoms.{atoms_of}
use Rattle.ls_spec.specs.Distinct.{distinct}

abbrev pub car_of : Specifier → List Specifier
car_of (cons_of a b) = a ∷ []
car_of _ = []

abbrev pub cdr_of : Specifier → List Specifier
cdr_of (cons_of a b) = b ∷ []
cdr_of _ = []

-- the distinct specifiers of the cars in the CONS atoms of a list, in order of first occurrence
unfoldable pub cars_of : List Specifier → List Specifier
cars_of list = distinct (flat_map car_of (atoms_of list))

-- and those of the cdrs
unfoldable pub cdrs_of : List Specifier → List Specifier
cdrs_of list = distinct (flat_map cdr_of (atoms_of list))

-- how many CONS stand in one another, outside element types
abbrev mutual
  pub nesting : Specifier → ℕ
  nesting all_objects = 0
  nesting no_objects = 0
  nesting (and_of ss) = nesting_of_all ss
  nesting (or_of ss) = nesting_of_all ss
  nesting (not_of s) = nesting s
  nesting (eql_to p) = 0
  nesting (range_of k lo hi) = 0
  nesting (chars_of k) = 0
  nesting (symbols_of k) = 0
  nesting (kind_of k) = 0
  nesting (structure_under name) = 0
  nesting any_structure = 0
  nesting (array_any simple dims) = 0
  nesting (array_of e simple dims) = 0
  nesting (string_of simple dim) = 0
  nesting (cons_of a b) = suc (max (nesting a) (nesting b))
  nesting (satisfies p) = 0

  pub nesting_of_all : Specifiers → ℕ
  nesting_of_all no_more = 0
  nesting_of_all (also s ss) = max (nesting s) (nesting_of_all ss)

-- 0 for no specifier, and else one more than the deepest nesting: it falls from a list to its cars and to its cdrs
abbrev pub height : List Specifier → ℕ
height [] = 0
height (s ∷ list) = max (suc (nesting s)) (height list)
