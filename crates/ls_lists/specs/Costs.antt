-- The cost of a decision: of a pair of types (SUBTYPEP), of one type (TYPEP), and of all that a file asks.
use Rattle.std.specs.Prelude.{ℕ, ◌||◌, if◌then◌else◌, false, List, [], ◌∷◌, ◌++◌, None, map}
use Rattle.std.specs.List.{flat_map, sum_by}
use Rattle.ls_object.specs.declared.table.TheConstants.{UPGRADING_TABLE}
use Rattle.ls_spec.specs.declared.spec.DimPattern.TheVariants as dimensions
use Rattle.ls_spec.specs.Specifier.{Specifier, all_objects, no_objects, and_of, or_of, not_of, eql_to, range_of, chars_of, symbols_of, kind_of, structure_under, any_structure, array_any, array_of, string_of, cons_of, satisfies, Specifiers, no_more, also}
use Rattle.ls_spec.specs.Approximation.{low, high, has_free_predicate}
use Rattle.ls_spec.specs.Distinct.{distinct}
use Rattle.ls_spec.specs.Entries.{entry_specifier}
use Rattle.ls_lists.specs.Walks.{sum, total, walk_all}

-- the element specifiers of arrays that stand anywhere in a specifier, inside other element specifiers too, each behind
-- those that stand in it
abbrev mutual
  pub elements_in : Specifier → List Specifier
  elements_in all_objects = []
  elements_in no_objects = []
  elements_in (and_of ss) = elements_in_all ss
  elements_in (or_of ss) = elements_in_all ss
  elements_in (not_of s) = elements_in s
  elements_in (eql_to p) = []
  elements_in (range_of k lo hi) = []
  elements_in (chars_of k) = []
  elements_in (symbols_of k) = []
  elements_in (kind_of k) = []
  elements_in (structure_under name) = []
  elements_in any_structure = []
  elements_in (array_any simple dims) = []
  elements_in (array_of e simple dims) = elements_in e ++ e ∷ []
  elements_in (string_of simple dim) = []
  elements_in (cons_of a b) = elements_in a ++ elements_in b
  elements_in (satisfies p) = []

  pub elements_in_all : Specifiers → List Specifier
  elements_in_all no_more = []
  elements_in_all (also s ss) = elements_in s ++ elements_in_all ss

-- the specifiers of what the entries of the upgrading table hold
abbrev pub table_specifiers : List Specifier
table_specifiers = map entry_specifier UPGRADING_TABLE

-- The upgraded code of an element specifier is found by comparing it with the entries of the table: one list for each
-- distinct element specifier.
unfoldable pub element_lists : List Specifier → List (List Specifier)
element_lists list = map (λ e. distinct (e ∷ table_specifiers)) (distinct (flat_map elements_in list))

-- where predicates decide, what surely belongs to the first type is compared with what may belong to the second
unfoldable pub predicate_lists : Specifier → Specifier → List (List Specifier)
predicate_lists a b = if has_free_predicate a || has_free_predicate b then distinct (low a ∷ high b ∷ []) ∷ [] else []

-- the lists that the decision on a pair starts from, in order, and those of the decision on one type
abbrev pub pair_lists : Specifier → Specifier → List (List Specifier)
pair_lists a b = element_lists (a ∷ b ∷ []) ++ distinct (a ∷ b ∷ []) ∷ predicate_lists a b

abbrev pub type_lists : Specifier → List (List Specifier)
type_lists s = element_lists (s ∷ [])

-- those from which the upgraded code of an element specifier is found: those of (VECTOR e)
abbrev pub upgrade_lists : Specifier → List (List Specifier)
upgrade_lists e = type_lists (array_of e false (dimensions.Places (None ∷ [])))

-- what the decision on a pair costs: a list that several of these reach counts for each
unfoldable pub pair_cost : Specifier → Specifier → ℕ
pair_cost a b = sum_by sum (pair_lists a b)

unfoldable pub type_cost : Specifier → ℕ
type_cost s = sum_by sum (type_lists s)

unfoldable pub upgrade_cost : Specifier → ℕ
upgrade_cost e = sum_by sum (upgrade_lists e)

-- what is asked: of a pair whether the first type is included in the second, or of one type whether an object belongs
pub data Question : Type 0 where
  of_pair : Specifier → Specifier → Question
  of_type : Specifier → Question

abbrev pub lists_of : Question → List (List Specifier)
lists_of (of_pair a b) = pair_lists a b
lists_of (of_type s) = type_lists s

-- what all questions cost together where no list is made twice: each list that is reached counts once
unfoldable pub charge : List Question → ℕ
charge questions = total (walk_all (flat_map lists_of questions) [])
