-- The EQL atoms of a list by their keys.
use Rattle.std.specs.Prelude.{ℕ, ◌≡◌, ◌<◌, ◌⊎◌, Bool, false, List, [], ◌∷◌, ◌++◌, length, Option, Some, None, slice_get, All, Contains}
use Rattle.std.specs.Bool.{Decides}
use Rattle.ls_object.specs.Universe.{LispObject, node, LispShape, plain_shape}
use Rattle.ls_spec.specs.declared.spec.Point.{Point}
use Rattle.ls_spec.specs.Specifier.{Specifier, eql_to}
use Rattle.ls_spec.specs.Keys.{key}
use Rattle.ls_spec.specs.Truth.{is_point}
use Rattle.ls_memo.specs.Kept.{kept_for}
use Rattle.ls_cells.specs.Signs.{at}
use Rattle.ls_cells.specs.declared.index.Index.{Index}

-- the plain form of the object is the point
abbrev pub is_eql : Point → LispObject → Bool
is_eql p (node marks shape) = is_point p (plain_shape shape)

-- an EQL
abbrev pub IsEql : Specifier → Type 0
IsEql (eql_to p) = Unit {0}
IsEql _ = ⊥

-- a shape of no point
abbrev pub IsNoPoint : LispShape → Type 0
IsNoPoint shape = (p : Point) → is_point p (plain_shape shape) ≡ false

-- the key of the EQL for the point of the shape
abbrev pub IsKeyOf : LispShape → List ℕ → Type 0
IsKeyOf shape q = (p : Point) → Decides (is_point p (plain_shape shape)) (key (eql_to p) ≡ q)

-- the number that is named for the point of the shape, if one is
pub record IsPlaceOf (names : List (List ℕ × ℕ)) (shape : LispShape) (place : Option ℕ) : Type 0 where
  pub named : (i : ℕ) → place ≡ Some i → (q : List ℕ) × (kept_for q names ≡ Some i)
  pub told : (p : Point) (i : ℕ) → kept_for (key (eql_to p)) names ≡ Some i
      → Decides (is_point p (plain_shape shape)) (place ≡ Some i)

-- each place is named once
abbrev pub AreApart : List (List ℕ × ℕ) → Type 0
AreApart names = (q r : List ℕ) (i : ℕ) → kept_for q names ≡ Some i → kept_for r names ≡ Some i → q ≡ r

-- at each named place whether the object is the point
pub record AreFound (len : ℕ) (names : List (List ℕ × ℕ)) (o : LispObject) (signs : List Bool) : Type 0 where
  pub long : length signs ≡ len
  pub told : (p : Point) (i : ℕ) → kept_for (key (eql_to p)) names ≡ Some i → at signs i ≡ is_eql p o

-- an EQL with this key stands at the place
abbrev pub IsEqlAt : List Specifier → List ℕ → ℕ → Type 0
IsEqlAt atoms q i = (p : Point) × (slice_get atoms i ≡ Some (eql_to p)) × (q ≡ key (eql_to p))

-- each of the first n atoms is among the others or named
pub record IsIndexOf (atoms : List Specifier) (n : ℕ) (index : Index) : Type 0 where
  pub others : All (λ i. i < n) index.others
  pub named : (q : List ℕ) (i : ℕ) → kept_for q index.names ≡ Some i → (i < n) × IsEqlAt atoms q i
  pub each : (i : ℕ) → i < n → Contains index.others i ⊎ ((q : List ℕ) × (kept_for q index.names ≡ Some i))

-- the atom at a place went to the others, or it was named
abbrev pub AddsAtom : Specifier → ℕ → Index → Index → Type 0
AddsAtom s i old new =
    ((new.names ≡ old.names) × (new.others ≡ old.others ++ i ∷ []))
    ⊎ (IsEql s × (kept_for (key s) old.names ≡ None) × (new.names ≡ old.names ++ (key s, i) ∷ []) × (new.others ≡ old.others))
