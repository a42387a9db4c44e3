-- Rows for each pair of a row on the side of the cars and one on that of the cdrs.
use Rattle.std.specs.Prelude.{◌≡◌, Bool, ◌&&◌, List, [], ◌++◌}
use Rattle.std.specs.List.{AllByRecursion, Contains}
use Rattle.ls_object.specs.Universe.{node, pair}
use Rattle.ls_cells.specs.declared.rows.Row.{Row}
use Rattle.ls_cells.specs.Signs.{zip_with}
use Rattle.ls_cells.specs.Rows.{origin_object, signs_of}

-- both say yes
abbrev pub joined : List Bool → List Bool → List Bool
joined xs ys = zip_with (λ a b. a && b) xs ys

-- the row is of a cons of what the two are made of
pub record IsPair (car cdr row : Row) : Type 0 where
  pub object :
      origin_object row.origin.value ≡ node [] (pair (origin_object car.origin.value) (origin_object cdr.origin.value))
  pub signs : row.signs ≡ joined car.signs cdr.signs

abbrev pub IsPairOf : List Row → List Row → Row → Type 0
IsPairOf cars cdrs row = (car : Row) × (cdr : Row) × Contains cars car × Contains cdrs cdr × IsPair car cdr row

-- such rows were added, and for each pair its truth values are there
pub record Crosses (cars cdrs old new : List Row) : Type 0 where
  pub more : List Row
  pub is : new ≡ old ++ more
  pub each : AllByRecursion (IsPairOf cars cdrs) more
  pub all : (car cdr : Row) → Contains cars car → Contains cdrs cdr → Contains (signs_of new) (joined car.signs cdr.signs)
