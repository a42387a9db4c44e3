-- The lists of specifiers that are reached by cars and cdrs, and what each adds to the cost of a decision.
use Rattle.std.specs.Prelude.{ℕ, zero, suc, min, ◌+◌, ◌*◌, ◌-◌, ◌/◌, ◌^◌, Bool, true, false, not, ◌||◌, if◌then◌else◌, IsTrue, List, [], ◌∷◌, ◌++◌, filter, length}
use Rattle.std.specs.List.{list_any, sum_by}
use Rattle.std.specs.Cmp.Lexicographic.{pointwise}
use Rattle.ls_spec.specs.Specifier.{Specifier}
use Rattle.ls_spec.specs.Atoms.{atoms_of}
use Rattle.ls_spec.specs.Distinct.{same}
use Rattle.ls_lists.specs.Sides.{cars_of, cdrs_of, height}
use Rattle.ls_lists.specs.Candidates.{candidates, predicates}

-- The rows that a list may have, given how many pairs there are of a row of its cars and one of its cdrs. A row tells
-- for each atom whether an object belongs to it: there are no more than all truth values, and for the atoms other
-- than predicates no more than candidates and pairs. Each predicate may be true or false of each of them.
abbrev pub rows_with : ℕ → List Specifier → ℕ
rows_with pairs list =
    2 ^ predicates list * min (2 ^ (length (atoms_of list) - predicates list)) (candidates list + pairs)

-- with any bound on the height of the list
unfoldable pub rows_within : ℕ → List Specifier → ℕ
rows_within bound [] = 1
rows_within zero (s ∷ list) = 1
rows_within (suc bound) (s ∷ list) =
    rows_with (rows_within bound (cars_of (s ∷ list)) * rows_within bound (cdrs_of (s ∷ list))) (s ∷ list)

-- how many rows a list may have: 1 for no specifier, and else rows_with (rows (cars_of list) * rows (cdrs_of list)) list
unfoldable pub rows : List Specifier → ℕ
rows list = rows_within (height list) list

-- how many rows are tried for a list, given its pairs: each of the candidates and pairs with all truth values of the
-- predicates, and once more for each 64 atoms, since the atoms of a row are stored 64 to a word
abbrev pub part_with : ℕ → List Specifier → ℕ
part_with pairs list = 2 ^ predicates list * (candidates list + pairs) * (1 + length (atoms_of list) / 64)

-- what one list adds to the cost
unfoldable pub part : List Specifier → ℕ
part list = part_with (rows (cars_of list) * rows (cdrs_of list)) list

abbrev pub is_none : List Specifier → Bool
is_none [] = true
is_none (s ∷ list) = false

-- the list is one of those
unfoldable pub among : List Specifier → List (List Specifier) → Bool
among list seen = list_any (pointwise same list) seen

-- nothing is left to do for it: it is empty, or among those seen
abbrev pub is_done : List Specifier → List (List Specifier) → Bool
is_done list seen = is_none list || among list seen

-- with any bound on the height of the list
unfoldable pub walk_within : ℕ → List Specifier → List (List Specifier) → List (List Specifier)
walk_within zero list seen = seen
walk_within (suc bound) list seen =
    if is_done list seen then seen else walk_within bound (cdrs_of list) (walk_within bound (cars_of list) seen) ++ list ∷ []

-- The lists seen so far, and behind them each list that this one reaches by cars and cdrs and that is not among them,
-- once: first those of its cars, then those of its cdrs, and the list itself last. Nothing is behind them where it is
-- done; else it is walk (cdrs_of list) (walk (cars_of list) seen) ++ list ∷ [].
unfoldable pub walk : List Specifier → List (List Specifier) → List (List Specifier)
walk list seen = walk_within (height list) list seen

-- one list after another
unfoldable pub walk_all : List (List Specifier) → List (List Specifier) → List (List Specifier)
walk_all [] seen = seen
walk_all (list ∷ lists) seen = walk_all lists (walk list seen)

-- the distinct lists that a list reaches, itself among them, without the empty one
abbrev pub reached : List Specifier → List (List Specifier)
reached list = walk list []

-- what the lists add together
abbrev pub total : List (List Specifier) → ℕ
total lists = sum_by part lists

-- what a list costs: the parts of the distinct lists that it reaches
abbrev pub sum : List Specifier → ℕ
sum list = total (reached list)

-- those of the lists that are not among the kept ones
abbrev pub missing : List (List Specifier) → List (List Specifier) → List (List Specifier)
missing kept lists = filter (λ list. not (among list kept)) lists

-- where a list is kept, so are its cars and its cdrs
abbrev pub IsClosed : List (List Specifier) → Type 0
IsClosed kept =
    (list : List Specifier) → IsTrue (among list kept) → IsTrue (is_done (cars_of list) kept) × IsTrue (is_done (cdrs_of list) kept)
