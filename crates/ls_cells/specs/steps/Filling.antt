-- How the rows of a list are made behind those of its cars and its cdrs.
use Rattle.std.specs.Prelude.{ℕ, ◌≡◌, ◌≤◌, ◌+◌, List, [], ◌∷◌, ◌++◌, false, IsTrue, All}
use Rattle.ls_object.specs.declared.table.Code.{Code}
use Rattle.ls_object.specs.Universe.{Structures}
use Rattle.ls_spec.specs.Specifier.{Specifier}
use Rattle.ls_spec.specs.Fits.{Fits}
use Rattle.ls_lists.specs.Sides.{cars_of, cdrs_of}
use Rattle.ls_lists.specs.Walks.{is_none, is_done}
use Rattle.ls_intern.specs.Places.{specifiers_at, Distinct}
use Rattle.ls_sides.specs.Gathering.{AreSides}
use Rattle.ls_cells.specs.declared.cells.Cells.{Cells}
use Rattle.ls_cells.specs.Codes.{codes_of, AreCodes, HasCodes}
use Rattle.ls_cells.specs.Kept.{lists, count_rows, entries_of, AreCellsOf, AreKept, Began, Grows}

-- The rows of a list may be made: it is not empty and fits, the codes of its element types are learnt, these
-- are its atoms, cars and cdrs by number, and what is wanted for its cars and its cdrs is kept.
pub record MayMake (structures : Structures) (known list : List Specifier)
    (atoms cars cdrs : List ℕ) (codes : List (List ℕ × Code)) (memo : List (List ℕ × Cells)) : Type 0 where
  pub distinct : Distinct known
  pub some : is_none list ≡ false
  pub fit : All (Fits structures) list
  pub right : AreCodes structures known codes
  pub learnt : All (HasCodes (codes_of known codes)) list
  pub sides : AreSides known list atoms cars cdrs
  pub kept : AreKept structures known memo
  pub cars_done : IsTrue (is_done (cars_of list) (lists (entries_of known memo)))
  pub cdrs_done : IsTrue (is_done (cdrs_of list) (lists (entries_of known memo)))

-- the cells of one list were put in behind the others
pub record Makes (structures : Structures) (known : List Specifier) (key : List ℕ) (old new : List (List ℕ × Cells))
    : Type 0 where
  pub made : Cells
  pub put : new ≡ old ++ (key, made) ∷ []
  pub right : AreCellsOf structures known (specifiers_at known key) made

-- the cells of a list and of all that it reaches were put in, or of some of them
pub record Fills (structures : Structures) (known list : List Specifier) (old new : List (List ℕ × Cells))
    (before now : ℕ) : Type 0 where
  pub kept : AreKept structures known new
  pub began : Began list (lists (entries_of known old)) (lists (entries_of known new)) before now
  pub rises : before ≤ now
  pub rows : count_rows (entries_of known new) + before ≤ count_rows (entries_of known old) + now
  pub grows : Grows old new
