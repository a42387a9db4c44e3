-- Rows: truth values, and the object that is made to have them.
use Rattle.std.specs.Prelude.{ℕ, ◌≡◌, ◌≤◌, ◌+◌, Bool, List, [], ◌∷◌, ◌++◌, map, length, All, AllPairs}
use Rattle.indexmap.specs.IndexSet.{IndexSet}
use Rattle.ls_object.specs.Universe.{LispObject, node, pair, IsPlain}
use Rattle.ls_object.specs.Meaning.{lisp_object}
use Rattle.ls_cells.specs.declared.origin.Origin.{Origin, Plain, Pair'}
use Rattle.ls_cells.specs.declared.rows.Row.{Row}
use Rattle.ls_cells.specs.declared.rows.TheConstants.{MANY}

-- the object that is made of an origin: a cons has no marks of its own
abbrev pub origin_object : Origin → LispObject
origin_object (Plain o) = lisp_object o
origin_object (Pair' p car q cdr) = node [] (pair (origin_object car) (origin_object cdr))

-- the truth values of each row
abbrev pub signs_of : List Row → List (List Bool)
signs_of rows = map (λ r. r.signs) rows

-- each row has n truth values
abbrev pub AreLong : ℕ → List Row → Type 0
AreLong n rows = All (λ r. length r.signs ≡ n) rows

-- no two rows have the same truth values
abbrev pub AreDifferent : List Row → Type 0
AreDifferent rows = AllPairs (λ x y. ¬ (x ≡ y)) (signs_of rows)

-- where there are many rows, their truth values are the keys, in order
abbrev pub HasKeys : List Row → List (List Bool) → Type 0
HasKeys rows keys = MANY ≤ length rows → keys ≡ signs_of rows

-- the same of the rows with one more behind them, which has these truth values
abbrev pub HasKeysWith : List Row → List Bool → List (List Bool) → Type 0
HasKeysWith rows signs keys = MANY ≤ length rows + 1 → keys ≡ signs_of rows ++ signs ∷ []

-- no two rows have the same truth values, which are the keys where there are many; and no row's object has marks
pub record Kept {S : Type 0} (rows : List Row) (keys : IndexSet (List Bool) S) : Type 0 where
  pub same : HasKeys rows keys.keys
  pub different : AreDifferent rows
  pub plain : All (λ r. IsPlain (origin_object r.origin.value)) rows
