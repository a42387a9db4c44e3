-- The atoms of a list of specifiers.
use Rattle.std.specs.Prelude.{List, [], ◌∷◌, ◌++◌}
use Rattle.ls_spec.specs.Specifier.{Specifier, all_objects, no_objects, and_of, or_of, not_of, eql_to, range_of, chars_of, symbols_of, kind_of, structure_under, any_structure, array_any, array_of, string_of, cons_of, satisfies, Specifiers, no_more, also}
use Rattle.ls_spec.specs.Meaning.{specifiers_of}
use Rattle.ls_spec.specs.Distinct.{distinct}

-- the specifiers other than T, NIL, AND, OR and NOT that are reached through AND, OR and NOT, in order,
-- with repeats
abbrev mutual
  pub leaves : Specifier → List Specifier
  leaves all_objects = []
  leaves no_objects = []
  leaves (and_of ss) = leaves_of_all ss
  leaves (or_of ss) = leaves_of_all ss
  leaves (not_of s) = leaves s
  leaves (eql_to p) = eql_to p ∷ []
  leaves (range_of k lo hi) = range_of k lo hi ∷ []
  leaves (chars_of k) = chars_of k ∷ []
  leaves (symbols_of k) = symbols_of k ∷ []
  leaves (kind_of k) = kind_of k ∷ []
  leaves (structure_under name) = structure_under name ∷ []
  leaves any_structure = any_structure ∷ []
  leaves (array_any simple dims) = array_any simple dims ∷ []
  leaves (array_of e simple dims) = array_of e simple dims ∷ []
  leaves (string_of simple dim) = string_of simple dim ∷ []
  leaves (cons_of a b) = cons_of a b ∷ []
  leaves (satisfies p) = satisfies p ∷ []

  pub leaves_of_all : Specifiers → List Specifier
  leaves_of_all no_more = []
  leaves_of_all (also s ss) = leaves s ++ leaves_of_all ss

-- the distinct atoms of a list of specifiers: those other than T, NIL, AND, OR and NOT that are reached from it
-- through AND, OR and NOT, each once, in order of first occurrence
abbrev pub atoms_of : List Specifier → List Specifier
atoms_of list = distinct (leaves_of_all (specifiers_of list))
