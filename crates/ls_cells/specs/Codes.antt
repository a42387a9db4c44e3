-- The upgraded codes of the element types of arrays, as far as a store has learnt them (15.1.2.1).
use Rattle.std.specs.Prelude.{ℕ, ◌<◌, List, [], ◌∷◌, map, length, Contains}
use Rattle.std.specs.List.{AllByRecursion}
use Rattle.ls_object.specs.declared.table.Code.{Code}
use Rattle.ls_object.specs.Universe.{Structures}
use Rattle.ls_spec.specs.Specifier.{Specifier, and_of, or_of, not_of, array_of, cons_of, Specifiers, no_more, also}
use Rattle.ls_spec.specs.Membership.{UpgradesTo}
use Rattle.ls_intern.specs.Places.{at}

-- element types with their codes, in the order in which they were learnt
abbrev pub Codes : Type 0
Codes = List (Specifier × ℕ)

-- each code is the upgraded one of its type
abbrev pub AreUpgraded : Structures → Codes → Type 0
AreUpgraded structures codes = AllByRecursion (λ p. UpgradesTo structures p.0 p.1) codes

-- the code of the type was learnt
abbrev pub IsKnown : Codes → Specifier → Type 0
IsKnown codes e = Contains (map (λ p. p.0) codes) e

-- the codes of the element types that the specifier's arrays name were learnt
abbrev mutual
  pub HasCodes : Codes → Specifier → Type 0
  HasCodes codes (and_of ss) = HaveCodes codes ss
  HasCodes codes (or_of ss) = HaveCodes codes ss
  HasCodes codes (not_of s) = HasCodes codes s
  HasCodes codes (array_of e simple dims) = IsKnown codes e
  HasCodes codes (cons_of a b) = HasCodes codes a × HasCodes codes b
  HasCodes codes _ = Unit {0}

  pub HaveCodes : Codes → Specifiers → Type 0
  HaveCodes codes no_more = Unit {0}
  HaveCodes codes (also s ss) = HasCodes codes s × HaveCodes codes ss

-- the number that a key of one number is
abbrev pub first_number : List ℕ → ℕ
first_number [] = 0
first_number (n ∷ ns) = n

-- what is kept by the number of an element type, with the type itself
abbrev pub codes_of : List Specifier → List (List ℕ × Code) → Codes
codes_of known memo = map (λ e. (at known (first_number e.0), e.1.index)) memo

-- the key is one number, of a known specifier
abbrev pub IsKeyBelow : ℕ → List ℕ → Type 0
IsKeyBelow n (i ∷ []) = i < n
IsKeyBelow n _ = ⊥

-- each key is the number of one known specifier, and its code is the upgraded one
pub record AreCodes (structures : Structures) (known : List Specifier) (memo : List (List ℕ × Code)) : Type 0 where
  pub keys : AllByRecursion (λ e. IsKeyBelow (length known) e.0) memo
  pub right : AreUpgraded structures (codes_of known memo)
