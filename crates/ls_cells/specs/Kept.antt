-- What a store keeps: for each of some lists of specifiers its rows.
use Rattle.std.specs.Prelude.{ℕ, min, ◌≡◌, ◌≤◌, ◌+◌, ◌-◌, ◌^◌, List, [], ◌∷◌, ◌++◌, map, length, All}
use Rattle.std.specs.List.{sum_by}
use Rattle.ls_object.specs.declared.table.Code.{Code}
use Rattle.ls_object.specs.Universe.{Structures}
use Rattle.ls_object.specs.Inclusion.{IsInclusionOrder}
use Rattle.ls_spec.specs.Specifier.{Specifier}
use Rattle.ls_spec.specs.Atoms.{atoms_of}
use Rattle.ls_spec.specs.Truth.{Learnt, IsLearnt}
use Rattle.ls_lists.specs.Walks.{rows, walk, total, IsClosed}
use Rattle.ls_intern.specs.Places.{specifiers_at, AllBelow}
use Rattle.ls_cells.specs.declared.rows.Row.{Row}
use Rattle.ls_cells.specs.declared.cells.Cells.{Cells}
use Rattle.ls_cells.specs.Cells.{AreRowsOf}
use Rattle.ls_cells.specs.Codes.{Codes, AreCodes}

-- lists of specifiers with their rows, in the order in which they were made
abbrev pub Entries : Type 0
Entries = List (List Specifier × List Row)

-- the lists for which rows are kept
abbrev pub lists : Entries → List (List Specifier)
lists entries = map (λ e. e.0) entries

-- how many rows are kept
abbrev pub count_rows : Entries → ℕ
count_rows entries = sum_by (λ e. length e.1) entries

-- What a contract sees of a store: the structure types, the specifiers of its table, the codes that it has learnt, and
-- what it keeps.
abbrev pub Stored : Type 0
Stored = Structures × (List Specifier × (Codes × Entries))

abbrev pub structures_in : Stored → Structures
structures_in stored = stored.0

abbrev pub specifiers_in : Stored → List Specifier
specifiers_in stored = stored.1.0

abbrev pub codes_in : Stored → Codes
codes_in stored = stored.1.1.0

abbrev pub entries_in : Stored → Entries
entries_in stored = stored.1.1.1

-- rows are right for a list, where what was learnt of its atoms is right; they are no more than it may have, and at
-- least one, since some object exists
pub record AreRightFor (structures : Structures) (list : List Specifier) (found : List Row) : Type 0 where
  pub are : (learnt : Learnt) → All (IsLearnt structures learnt) (atoms_of list)
      → AreRowsOf structures learnt (atoms_of list) found
  pub few : length found ≤ rows list
  pub some : 1 ≤ length found

-- these are the atoms of a list, by their numbers in a table, and right rows for it
pub record AreCellsOf (structures : Structures) (known list : List Specifier) (cells : Cells) : Type 0 where
  pub below : AllBelow (length known) cells.atoms
  pub atoms_are : specifiers_at known cells.atoms ≡ atoms_of list
  pub right : AreRightFor structures list cells.rows

-- Of the lists that one list reaches and for which no rows were kept, some were made, in order: all before the place
-- where it was broken off, or all. It took no more steps than all of them add together.
pub record Began (list : List Specifier) (old new : List (List Specifier)) (before now : ℕ) : Type 0 where
  pub more : List (List Specifier)
  pub is : walk list old ≡ new ++ more
  pub steps : now + total old ≤ before + total (walk list old)

-- what was there is there unchanged, and more may be behind it
pub record Grows {X : Type 0} (old new : List X) : Type 0 where
  pub more : List X
  pub is : new ≡ old ++ more

-- what is kept by the numbers of a list, with the list itself
abbrev pub entries_of : List Specifier → List (List ℕ × Cells) → Entries
entries_of known memo = map (λ e. (specifiers_at known e.0, e.1.rows)) memo

-- each key names known specifiers, and has the cells of the list of them
abbrev pub AllKept : Structures → List Specifier → List (List ℕ × Cells) → Type 0
AllKept structures known [] = Unit {0}
AllKept structures known (e ∷ memo) =
    (AllBelow (length known) e.0 × AreCellsOf structures known (specifiers_at known e.0) e.1)
    × AllKept structures known memo

-- what is kept is right, and where a list is kept, so are its cars and its cdrs
pub record AreKept (structures : Structures) (known : List Specifier) (memo : List (List ℕ × Cells)) : Type 0 where
  pub order : IsInclusionOrder structures
  pub each : AllKept structures known memo
  pub closed : IsClosed (lists (entries_of known memo))

-- this is how many rows are kept; a number past the greatest u64 is told as that
abbrev pub AreCounted : List Specifier → List (List ℕ × Cells) → ℕ → Type 0
AreCounted known memo count = count ≡ min (count_rows (entries_of known memo)) (2 ^ 64 - 1)

-- a store has learnt right codes, keeps right cells, and counts their rows
pub record IsStore (structures : Structures) (known : List Specifier) (codes : List (List ℕ × Code))
    (memo : List (List ℕ × Cells)) (count : ℕ) : Type 0 where
  pub upgraded : AreCodes structures known codes
  pub kept : AreKept structures known memo
  pub counted : AreCounted known memo count
