-- Specifiers and objects of which membership asks for no structure list and no upgraded code.
use Rattle.ls_object.specs.Universe.{LispShape, pair, array, structure}
use Rattle.ls_spec.specs.Specifier.{Specifier, and_of, or_of, not_of, structure_under, array_of, cons_of, Specifiers, no_more, also}

-- membership in the specifier asks for no structure list and no upgraded code
abbrev mutual
  pub IsSelfContained : Specifier → Type 0
  IsSelfContained (and_of ss) = AreSelfContained ss
  IsSelfContained (or_of ss) = AreSelfContained ss
  IsSelfContained (not_of s) = IsSelfContained s
  IsSelfContained (cons_of a b) = IsSelfContained a × IsSelfContained b
  IsSelfContained (array_of e simple dims) = ⊥
  IsSelfContained (structure_under y) = ⊥
  IsSelfContained _ = Unit {0}

  pub AreSelfContained : Specifiers → Type 0
  AreSelfContained no_more = Unit {0}
  AreSelfContained (also s ss) = IsSelfContained s × AreSelfContained ss

-- The shape of a number, a character, a symbol or an opaque object. Whether it belongs to a specifier depends
-- neither on the structure types of the file nor on element types.
abbrev pub IsFlat : LispShape → Type 0
IsFlat (pair car cdr) = ⊥
IsFlat (array code simple dims) = ⊥
IsFlat (structure s) = ⊥
IsFlat _ = Unit {0}
