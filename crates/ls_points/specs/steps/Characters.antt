-- The characters that stand for all characters.
use Rattle.std.specs.Prelude.{◌≡◌, ℕ, ◌<◌, ◌≤◌, Bool, true, false, not, ◌&&◌, nat_eq, nat_lt, List, [], ◌∷◌}
use Rattle.std.specs.Char.{IsScalar}
use Rattle.std.specs.List.{list_any}
use Rattle.indexmap.specs.IndexSet.{insert_all}
use Rattle.ls_spec.specs.declared.spec.CharClass.{CharClass}
use Rattle.ls_spec.specs.declared.spec.CharClass.TheVariants.{Any, Base, Standard}
use Rattle.ls_spec.specs.declared.spec.Point.TheVariants as point
use Rattle.ls_spec.specs.declared.spec.Spec.{Spec}
use Rattle.ls_spec.specs.Meaning.{specifier}
use Rattle.ls_spec.specs.Specifier.{Specifier, eql_to}
use Rattle.ls_spec.specs.Truth.{is_of_char_class}

-- the character that an atom names
abbrev pub named_characters : Specifier → List ℕ
named_characters (eql_to (point.Char c)) = c ∷ []
named_characters _ = []

-- the distinct characters that atoms name, behind those already found
abbrev pub with_characters : List ℕ → Spec → List ℕ
with_characters found a = insert_all nat_eq found (named_characters (specifier a))

-- the character is in the class and in no narrower one
abbrev pub is_just_in : CharClass → ℕ → Bool
is_just_in Standard c = is_of_char_class Standard c
is_just_in Base c = nat_lt c 128 && not (is_of_char_class Standard c)
is_just_in Any c = not (nat_lt c 128)

-- a character that is not among the named ones and just in the class
pub record IsUnnamed (named : List ℕ) (class : CharClass) (c : ℕ) : Type 0 where
  pub is_scalar : IsScalar c
  pub is_just_in : is_just_in class c ≡ true
  pub is_new : list_any (nat_eq c) named ≡ false

-- every character just in the class, with a code from start to below end, is among the named ones
abbrev pub AreNamedBetween : List ℕ → CharClass → ℕ → ℕ → Type 0
AreNamedBetween named class start end =
    (c : ℕ) → IsScalar c → start ≤ c → c < end → is_just_in class c ≡ true → list_any (nat_eq c) named ≡ true
