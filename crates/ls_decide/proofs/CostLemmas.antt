-- What several lists cost together, within a budget.
use Rattle.std.proofs.Common.{ℕ, zero, suc, ◌≡◌, ◌≤◌, ◌<◌, ◌+◌, ◌-◌, refl, sym, ◌∙◌, ap, subst, arith, List, [], ◌∷◌, ◌++◌, length, map, take, get_or, Bool, true, false, ◌||◌, if◌then◌else◌, Some}
use Rattle.std.specs.Prelude.{slice_get, slice_index_or}
use Rattle.std.specs.List.{sum_by, flat_map}
use Rattle.std.proofs.lemmas.List.Sums.{sum_by-cons, sum_by-append}
use Rattle.ls_object.specs.declared.table.Entry.{Entry}
use Rattle.ls_object.specs.declared.table.TheConstants.{UPGRADING_TABLE, TABLE_LEN}
use Rattle.ls_spec.specs.Specifier.{Specifier}
use Rattle.ls_spec.specs.Approximation.{low, high, has_free_predicate}
use Rattle.ls_spec.specs.Distinct.{distinct}
use Rattle.ls_spec.specs.Entries.{entry_specifier, specifier_at, code_specifier}
use Rattle.ls_lists.specs.Walks.{sum}
use Rattle.ls_lists.specs.Costs.{elements_in, table_specifiers, element_lists, predicate_lists, pair_cost, type_cost}
use Rattle.ls_intern.specs.Places.{at, specifiers_at, AllBelow, Extends}
use Rattle.ls_intern.proofs.PlaceLemmas.{extends_both, all_below_grown, below_grown, at_grown, specifiers_grown}
use Rattle.ls_decide.specs.Answers.{TellsCost}
use Rattle.ls_sides.proofs.GatherLemmas.{below_last, specifiers_last}
use Rattle.ls_decide.proofs.ListLemmas.{sum_more}

-- a sum over some of the specifiers is at most that over all
sum_le : (f : Specifier → ℕ) (known : List Specifier) (ids : List ℕ) (k : ℕ) → sum_by f (specifiers_at known (take k ids)) ≤ sum_by f (specifiers_at known ids)
sum_le f known [] zero = omega arith
sum_le f known [] (suc k) = omega arith
sum_le f known (x ∷ ids) zero = omega arith
sum_le f known (x ∷ ids) (suc k) =
    let r = sum_le f known ids k in
    let a = sum_by-cons f (at known x) (specifiers_at known ids) in
    let b = sum_by-cons f (at known x) (specifiers_at known (take k ids)) in
    omega arith

-- one more of them passes what is left of the budget
pub more_pass : (f : Specifier → ℕ) (known : List Specifier) (ids : List ℕ) (i id n budget : ℕ) → i < length ids → id ≡ get_or ids i id
    → n ≡ sum_by f (specifiers_at known (take i ids)) → n ≤ budget → budget - n < f (at known id) → budget < sum_by f (specifiers_at known ids)
more_pass f known ids i id n budget h e s l p =
    let a = sum_more f known ids i id h e in
    let b = sum_le f known ids (i + 1) in
    omega arith

sum_map : {X : Type 0} (f : X → ℕ) (g : Specifier → X) (list : List Specifier) → sum_by f (map g list) ≡ sum_by (λ s. f (g s)) list
sum_map f g [] = refl
sum_map f g (s ∷ list) = sum_by-cons f (g s) (map g list) ∙ ap (λ n. f (g s) + n) (sum_map f g list) ∙ sym (sum_by-cons (λ x. f (g x)) s list)

-- the lists of element specifiers, one after another
pub elements_are : (elements entries list : List Specifier) → elements ≡ distinct (flat_map elements_in list) → entries ≡ table_specifiers
    → sum_by (λ e. sum (distinct (e ∷ entries))) elements ≡ sum_by sum (element_lists list)
unfolding element_lists
elements_are elements entries list e f =
    ap (λ t. sum_by (λ x. sum (distinct (x ∷ t))) elements) f ∙ ap (sum_by (λ x. sum (distinct (x ∷ table_specifiers)))) e
    ∙ sym (sum_map sum (λ x. distinct (x ∷ table_specifiers)) (distinct (flat_map elements_in list)))

-- no predicate decides, or one does
pub no_predicates : (a b : Specifier) (free : Bool) → free ≡ (has_free_predicate a || has_free_predicate b) → free ≡ false → sum_by sum (predicate_lists a b) ≡ 0
unfolding predicate_lists
no_predicates a b free e f = ap (λ c. sum_by sum (if c then distinct (low a ∷ high b ∷ []) ∷ [] else [])) (sym e ∙ f)

pub some_predicates : (a b : Specifier) (free : Bool) → free ≡ (has_free_predicate a || has_free_predicate b) → free ≡ true → sum_by sum (predicate_lists a b) ≡ sum (distinct (low a ∷ high b ∷ []))
unfolding predicate_lists
some_predicates a b free e f =
    ap (λ c. sum_by sum (if c then distinct (low a ∷ high b ∷ []) ∷ [] else [])) (sym e ∙ f) ∙ sum_by-cons sum (distinct (low a ∷ high b ∷ [])) []
    ∙ (let x = sum (distinct (low a ∷ high b ∷ [])) in omega arith)

-- the parts of the cost of a pair
pub pair_cost_is : (a b : Specifier) → pair_cost a b ≡ sum (distinct (a ∷ b ∷ [])) + (sum_by sum (element_lists (a ∷ b ∷ [])) + sum_by sum (predicate_lists a b))
unfolding pair_cost
pair_cost_is a b =
    let whole = sum_by-append sum (element_lists (a ∷ b ∷ [])) (distinct (a ∷ b ∷ []) ∷ predicate_lists a b) in
    let own = sum_by-cons sum (distinct (a ∷ b ∷ [])) (predicate_lists a b) in
    omega (arith, whole, own)

pub type_cost_is : (s : Specifier) → type_cost s ≡ sum_by sum (element_lists (s ∷ []))
unfolding type_cost
type_cost_is s = refl

-- one more entry of the table
entries_more : (entries : List Entry) (i : ℕ) → i < length entries → map entry_specifier (take (suc i) entries) ≡ map entry_specifier (take i entries) ++ specifier_at (slice_get entries i) ∷ []
entries_more [] i h = absurd (omega arith)
entries_more (e ∷ entries) zero h = refl
entries_more (e ∷ entries) (suc i) h = ap (λ l. entry_specifier e ∷ l) (entries_more entries i (omega arith))

-- one more entry was put in behind the others
pub entry_added : (start old new : List Specifier) (ids items : List ℕ) (i id : ℕ) → Extends start old → Extends old new → AllBelow (length old) ids
    → specifiers_at old ids ≡ map entry_specifier (take i UPGRADING_TABLE) → id < length new → at new id ≡ code_specifier i → i < TABLE_LEN → items ≡ ids ++ id ∷ []
    → Extends start new × (AllBelow (length new) items × (specifiers_at new items ≡ map entry_specifier (take (i + 1) UPGRADING_TABLE)))
entry_added start old new ids items i id f g b are within is h e =
    let j : i + 1 ≡ suc i = omega arith in (
      extends_both start old new f g,
      (
        subst (AllBelow (length new)) (sym e) (below_last (length new) ids id (all_below_grown old new ids g b) within),
        ap (specifiers_at new) e ∙ specifiers_last new ids id ∙ ap (λ l. l ++ at new id ∷ []) (specifiers_grown old new ids g b ∙ are)
            ∙ ap (λ s. map entry_specifier (take i UPGRADING_TABLE) ++ s ∷ []) is ∙ sym (entries_more UPGRADING_TABLE i h) ∙ ap (λ k. map entry_specifier (take k UPGRADING_TABLE)) (sym j),
      ),
    )

-- the first specifiers of a table that grew twice since
pub pair_at : (one two three : List Specifier) (first second : ℕ) (a b : Specifier) → Extends one two → Extends two three → first < length one → second < length two → at one first ≡ a → at two second ≡ b
    → specifiers_at three (first ∷ second ∷ []) ≡ a ∷ b ∷ []
pair_at one two three first second a b f g h k d e =
    let l = at_grown two three first g (below_grown one two first f h) ∙ at_grown one two first f h ∙ d in
    let m = at_grown two three second g k ∙ e in
    ap (λ s. s ∷ at three second ∷ []) l ∙ ap (λ s. a ∷ s ∷ []) m

pub pair_below : (one two three : List Specifier) (first second : ℕ) → Extends one two → Extends two three → first < length one → second < length two → AllBelow (length three) (first ∷ second ∷ [])
pair_below one two three first second f g h k = (below_grown two three first g (below_grown one two first f h), (below_grown two three second g k, tt))

-- a number that is gone through is the one at its place
pub index_at : (ids : List ℕ) (i : ℕ) → i < length ids → slice_index_or ids i 0 ≡ get_or ids i (slice_index_or ids i 0)
index_at [] i h = absurd (omega arith)
index_at (x ∷ ids) zero h = refl
index_at (x ∷ ids) (suc i) h = index_at ids i (omega arith)

-- the list of a pair passes the budget, or its element specifiers do, or its predicates
pub first_passes : (budget : ℕ) (a b : Specifier) (list : List Specifier) → list ≡ distinct (a ∷ b ∷ []) → budget < sum list → budget < pair_cost a b
first_passes budget a b list e h =
    let p = pair_cost_is a b in
    let f = ap sum e in
    omega arith

pub second_passes : (budget own : ℕ) (a b : Specifier) (list pair : List Specifier) → list ≡ distinct (a ∷ b ∷ []) → pair ≡ a ∷ b ∷ [] → TellsCost budget (sum list) (Some own)
    → budget - own < sum_by sum (element_lists pair) → budget < pair_cost a b
second_passes budget own a b list pair e f t h =
    let p = pair_cost_is a b in
    let g = ap sum e in
    let k = ap (λ l. sum_by sum (element_lists l)) f in
    let m = t.0 in
    let n = t.1 in
    omega arith

pub third_passes : (budget own elements : ℕ) (a b : Specifier) (list pair : List Specifier) → list ≡ distinct (a ∷ b ∷ []) → pair ≡ a ∷ b ∷ [] → TellsCost budget (sum list) (Some own)
    → TellsCost (budget - own) (sum_by sum (element_lists pair)) (Some elements) → budget - own - elements < sum_by sum (predicate_lists a b) → budget < pair_cost a b
third_passes budget own elements a b list pair e f t u h =
    let p = pair_cost_is a b in
    let g = ap sum e in
    let k = ap (λ l. sum_by sum (element_lists l)) f in
    let m = t.0 in
    let n = t.1 in
    let v = u.0 in
    let w = u.1 in
    omega arith

-- the three together
pub none_passes : (budget own elements predicates : ℕ) (a b : Specifier) (list pair : List Specifier) → list ≡ distinct (a ∷ b ∷ []) → pair ≡ a ∷ b ∷ [] → TellsCost budget (sum list) (Some own)
    → TellsCost (budget - own) (sum_by sum (element_lists pair)) (Some elements) → TellsCost (budget - own - elements) (sum_by sum (predicate_lists a b)) (Some predicates)
    → TellsCost budget (pair_cost a b) (Some (own + elements + predicates))
none_passes budget own elements predicates a b list pair e f t u z =
    let p = pair_cost_is a b in
    let g = ap sum e in
    let k = ap (λ l. sum_by sum (element_lists l)) f in
    let m = t.0 in
    let n = t.1 in
    let v = u.0 in
    let w = u.1 in
    let x = z.0 in
    let y = z.1 in
    (omega arith, omega arith)
