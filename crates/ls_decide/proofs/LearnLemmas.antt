-- The element types in specifiers: each stands behind those in it, and has what the specifier has.
use Rattle.std.proofs.Common.{ℕ, zero, suc, ◌≡◌, ◌<◌, ◌+◌, refl, sym, ◌∙◌, ap, subst, List, [], ◌∷◌, ◌++◌, append_assoc, append-nil, Bool, true, false, if◌then◌else◌, length, map, take, get_or, fold, arith, All, ◌⊎◌, inl, inr}
use Rattle.std.specs.Bool.{Decides}
use Rattle.std.specs.List.{AllByRecursion, Contains, list_any, flat_map, sum_by}
use Rattle.std.proofs.lemmas.List.Elements.{All-from_recursion, recursion_from_All, Contains-append_left, Contains-append_right, Contains-append_cases}
use Rattle.std.proofs.lemmas.List.{map-append}
use Rattle.std.proofs.lemmas.List.Sums.{sum_by-cons}
use Rattle.ls_object.specs.Universe.{Structures}
use Rattle.ls_spec.specs.Specifier.{Specifier, all_objects, no_objects, and_of, or_of, not_of, eql_to, range_of, chars_of, symbols_of, kind_of, structure_under, any_structure, array_any, array_of, string_of, cons_of, satisfies, Specifiers, no_more, also}
use Rattle.ls_spec.specs.Distinct.{same, distinct, with_new}
use Rattle.ls_spec.specs.Fits.{Fits}
use Rattle.ls_spec.proofs.DistinctLemmas.{Decides-among, all_from_distinct, all_of_distinct}
use Rattle.ls_spec.proofs.ListLemmas.{AllByRecursion-append, AllByRecursion-weaker, AllByRecursion-contains}
use Rattle.ls_spec.proofs.AlikeLemmas.{AllByRecursion-front, AllByRecursion-back}
use Rattle.ls_lists.specs.Walks.{sum}
use Rattle.ls_lists.specs.Costs.{elements_in, elements_in_all, table_specifiers, element_lists}
use Rattle.ls_cells.specs.Codes.{Codes, IsKnown, HasCodes, HaveCodes}
use Rattle.ls_cells.specs.Kept.{Grows}
use Rattle.ls_cells.proofs.DescentLemmas.{GoesDown, AllOf, fits_down}
use Rattle.ls_decide.specs.Sessions.{element_list}
use Rattle.ls_decide.proofs.PairLemmas.{each_itself}
use Rattle.ls_decide.specs.steps.Learning.{AreInnerPast, AreInnerFirst, learning_cost}

abbrev Specs : Type 0
Specs = List Specifier

-- ---- what goes down to element types

module _ (P : Specifier → Type 0) (down : GoesDown P) (of_element : (e : Specifier) (simple : Bool) (dims : _) → P (array_of e simple dims) → P e) where
  mutual
    pub elements_have : (s : Specifier) → P s → AllByRecursion P (elements_in s)
    elements_have all_objects h = tt
    elements_have no_objects h = tt
    elements_have (and_of ss) h = elements_of_all_have ss (down.of_and ss h)
    elements_have (or_of ss) h = elements_of_all_have ss (down.of_or ss h)
    elements_have (not_of s) h = elements_have s (down.of_not s h)
    elements_have (eql_to p) h = tt
    elements_have (range_of k lo hi) h = tt
    elements_have (chars_of k) h = tt
    elements_have (symbols_of k) h = tt
    elements_have (kind_of k) h = tt
    elements_have (structure_under name) h = tt
    elements_have any_structure h = tt
    elements_have (array_any simple dims) h = tt
    elements_have (array_of e simple dims) h =
        AllByRecursion-append P (elements_in e) (e ∷ []) (elements_have e (of_element e simple dims h)) (of_element e simple dims h, tt)
    elements_have (string_of simple dim) h = tt
    elements_have (cons_of a b) h = AllByRecursion-append P (elements_in a) (elements_in b) (elements_have a (down.of_car a b h)) (elements_have b (down.of_cdr a b h))
    elements_have (satisfies p) h = tt

    elements_of_all_have : (ss : Specifiers) → AllOf P ss → AllByRecursion P (elements_in_all ss)
    elements_of_all_have no_more h = tt
    elements_of_all_have (also s ss) h = AllByRecursion-append P (elements_in s) (elements_in_all ss) (elements_have s h.0) (elements_of_all_have ss h.1)

-- the element types in what fits fit
pub elements_have_fit : (structures : Structures) (s : Specifier) → Fits structures s → AllByRecursion (Fits structures) (elements_in s)
elements_have_fit structures s h = elements_have (Fits structures) (fits_down structures) (λ e simple dims k. (k.0, (k.1.0.0, (let d = k.1.1 in omega arith)))) s h

-- and so those of a list
each_fits : (structures : Structures) (list : Specs) → AllByRecursion (Fits structures) list → AllByRecursion (Fits structures) (flat_map elements_in list)
each_fits structures [] h = tt
each_fits structures (s ∷ list) h =
    AllByRecursion-append (Fits structures) (elements_in s) (flat_map elements_in list) (elements_have_fit structures s h.0) (each_fits structures list h.1)

pub elements_fit : (structures : Structures) (list : Specs) → AllByRecursion (Fits structures) list → All (Fits structures) (distinct (flat_map elements_in list))
elements_fit structures list h =
    All-from_recursion (Fits structures) (distinct (flat_map elements_in list)) (all_of_distinct (Fits structures) (flat_map elements_in list) (each_fits structures list h))

-- ---- known codes

mutual
  -- where the codes of all element types in it are known, a specifier has its codes
  pub known_codes : (codes : Codes) (s : Specifier) → AllByRecursion (IsKnown codes) (elements_in s) → HasCodes codes s
  known_codes codes (and_of ss) h = known_codes_of_all codes ss h
  known_codes codes (or_of ss) h = known_codes_of_all codes ss h
  known_codes codes (not_of s) h = known_codes codes s h
  known_codes codes (array_of e simple dims) h = (AllByRecursion-back (IsKnown codes) (elements_in e) (e ∷ []) h).0
  known_codes codes (cons_of a b) h =
      (known_codes codes a (AllByRecursion-front (IsKnown codes) (elements_in a) (elements_in b) h), known_codes codes b (AllByRecursion-back (IsKnown codes) (elements_in a) (elements_in b) h))
  known_codes codes _ h = tt

  known_codes_of_all : (codes : Codes) (ss : Specifiers) → AllByRecursion (IsKnown codes) (elements_in_all ss) → HaveCodes codes ss
  known_codes_of_all codes no_more h = tt
  known_codes_of_all codes (also s ss) h =
      (known_codes codes s (AllByRecursion-front (IsKnown codes) (elements_in s) (elements_in_all ss) h), known_codes_of_all codes ss (AllByRecursion-back (IsKnown codes) (elements_in s) (elements_in_all ss) h))

-- ---- each stands behind those in it

wider : (seen list : Specs) (e : Specifier) → AllByRecursion (Contains seen) (elements_in e) → AllByRecursion (Contains (seen ++ list)) (elements_in e)
wider seen list e h = AllByRecursion-weaker (Contains seen) (Contains (seen ++ list)) (λ x c. Contains-append_left seen list x c) (elements_in e) h

inner_append : (seen xs ys : Specs) → AreInnerPast seen xs → AreInnerPast (seen ++ xs) ys → AreInnerPast seen (xs ++ ys)
inner_append seen [] ys h k = subst (λ (l : Specs). AreInnerPast l ys) (append-nil seen) k
inner_append seen (x ∷ xs) ys h k =
    (h.0, inner_append (seen ++ x ∷ []) xs ys h.1 (subst (λ (l : Specs). AreInnerPast l ys) (sym (append_assoc seen (x ∷ []) xs)) k))

mutual
  inner_elements : (seen : Specs) (s : Specifier) → AreInnerPast seen (elements_in s)
  inner_elements seen all_objects = tt
  inner_elements seen no_objects = tt
  inner_elements seen (and_of ss) = inner_elements_of_all seen ss
  inner_elements seen (or_of ss) = inner_elements_of_all seen ss
  inner_elements seen (not_of s) = inner_elements seen s
  inner_elements seen (eql_to p) = tt
  inner_elements seen (range_of k lo hi) = tt
  inner_elements seen (chars_of k) = tt
  inner_elements seen (symbols_of k) = tt
  inner_elements seen (kind_of k) = tt
  inner_elements seen (structure_under name) = tt
  inner_elements seen any_structure = tt
  inner_elements seen (array_any simple dims) = tt
  inner_elements seen (array_of e simple dims) =
      inner_append seen (elements_in e) (e ∷ []) (inner_elements seen e)
      (AllByRecursion-weaker (Contains (elements_in e)) (Contains (seen ++ elements_in e)) (λ x c. Contains-append_right seen (elements_in e) x c) (elements_in e) (each_itself (elements_in e)), tt)
  inner_elements seen (string_of simple dim) = tt
  inner_elements seen (cons_of a b) = inner_append seen (elements_in a) (elements_in b) (inner_elements seen a) (inner_elements (seen ++ elements_in a) b)
  inner_elements seen (satisfies p) = tt

  inner_elements_of_all : (seen : Specs) (ss : Specifiers) → AreInnerPast seen (elements_in_all ss)
  inner_elements_of_all seen no_more = tt
  inner_elements_of_all seen (also s ss) =
      inner_append seen (elements_in s) (elements_in_all ss) (inner_elements seen s) (inner_elements_of_all (seen ++ elements_in s) ss)

inner_list : (seen list : Specs) → AreInnerPast seen (flat_map elements_in list)
inner_list seen [] = tt
inner_list seen (s ∷ list) = inner_append seen (elements_in s) (flat_map elements_in list) (inner_elements seen s) (inner_list (seen ++ elements_in s) list)

-- what is found is all that was seen
abbrev AllFound : Specs → Specs → Type 0
AllFound seen found = (x : Specifier) → Contains seen x → Contains found x

found_more : (seen found : Specs) (e : Specifier) → AllFound seen found → Contains found e → AllFound (seen ++ e ∷ []) found
found_more seen found e all here x c = by (Contains-append_cases seen (e ∷ []) x c)
  where
    by : Contains seen x ⊎ Contains (e ∷ []) x → Contains found x
    by (inl a) = all x a
    by (inr b) = AllByRecursion-contains (Contains found) (e ∷ []) x (here, tt) b

inner_by : (seen found : Specs) (e : Specifier) (rest : Specs) → AllFound seen found → AreInnerFirst found → AllByRecursion (Contains seen) (elements_in e)
    → ((more : Specs) → AllFound (seen ++ e ∷ []) more → AreInnerFirst more → AreInnerFirst (fold with_new more rest))
    → (b : Bool) → Decides b (Contains found e) → AreInnerFirst (fold with_new (if b then found else found ++ e ∷ []) rest)
inner_by seen found e rest all first h next true here = next found (found_more seen found e all (here.0 refl)) first
inner_by seen found e rest all first h next false here =
    next (found ++ e ∷ [])
    (found_more seen (found ++ e ∷ []) e (λ x c. Contains-append_left found (e ∷ []) x (all x c)) (Contains-append_right found (e ∷ []) e (0, omega arith, refl)))
    (inner_append [] found (e ∷ []) first (AllByRecursion-weaker (Contains seen) (Contains found) all (elements_in e) h, tt))

inner_fold : (seen found rest : Specs) → AllFound seen found → AreInnerFirst found → AreInnerPast seen rest → AreInnerFirst (fold with_new found rest)
inner_fold seen found [] all first h = first
inner_fold seen found (e ∷ rest) all first h =
    inner_by seen found e rest all first h.0 (λ more a f. inner_fold (seen ++ e ∷ []) more rest a f h.1) (list_any (same e) found) (Decides-among e found)

-- the element types of a list, each once, stand behind those in them
pub elements_inner : (list : Specs) → AreInnerFirst (distinct (flat_map elements_in list))
elements_inner list = inner_fold [] [] (flat_map elements_in list) (λ x c. c) tt (inner_list [] list)

-- all element types in one of them stand before it
pub inner_at : (seen list : Specs) (k : ℕ) (e : Specifier) → AreInnerPast seen list → k < length list → get_or list k e ≡ e → AllByRecursion (Contains (seen ++ take k list)) (elements_in e)
inner_at seen [] k e h lt is = absurd (omega (arith, lt))
inner_at seen (x ∷ list) zero e h lt is =
    subst (λ (l : Specs). AllByRecursion (Contains l) (elements_in e)) (sym (append-nil seen)) (subst (λ (s : Specifier). AllByRecursion (Contains seen) (elements_in s)) is h.0)
inner_at seen (x ∷ list) (suc k) e h lt is =
    subst (λ (l : Specs). AllByRecursion (Contains l) (elements_in e)) (append_assoc seen (x ∷ []) (take k list)) (inner_at (seen ++ x ∷ []) list k e h.1 (omega (arith, lt)) is)

-- ---- what learning costs

sum_map : {X : Type 0} (f : X → ℕ) (g : Specifier → X) (list : Specs) → sum_by f (map g list) ≡ sum_by (λ s. f (g s)) list
sum_map f g [] = refl
sum_map f g (s ∷ list) = sum_by-cons f (g s) (map g list) ∙ ap (λ n. f (g s) + n) (sum_map f g list) ∙ sym (sum_by-cons (λ x. f (g x)) s list)

-- what the lists of element types cost together
pub learning_cost_is : (elements : Specs) → sum_by sum (map element_list elements) ≡ learning_cost elements
learning_cost_is elements = sum_map sum element_list elements

-- the same by the entries
pub learning_cost_by : (entries elements : Specs) → entries ≡ table_specifiers → sum_by (λ e. sum (distinct (e ∷ entries))) elements ≡ learning_cost elements
unfolding element_list
learning_cost_by entries elements is = ap (λ (t : Specs). sum_by (λ e. sum (distinct (e ∷ t))) elements) is

pub element_lists_are : (list : Specs) → element_lists list ≡ map element_list (distinct (flat_map elements_in list))
unfolding element_lists element_list
element_lists_are list = refl

-- ---- a code that was learnt

-- what was known is known when more is
pub known_more : (old new : Codes) (e : Specifier) → Grows old new → IsKnown old e → IsKnown new e
known_more old new e grows h =
    subst (λ (c : Codes). IsKnown c e) (sym grows.is)
    (subst (λ (l : Specs). Contains l e) (sym (map-append (λ p. p.0) old grows.more)) (Contains-append_left (map (λ p. p.0) old) (map (λ p. p.0) grows.more) e h))

pub known_last : (old new : Codes) (e : Specifier) (code : ℕ) → new ≡ old ++ (e, code) ∷ [] → IsKnown new e
known_last old new e code is =
    subst (λ (c : Codes). IsKnown c e) (sym is)
    (subst (λ (l : Specs). Contains l e) (sym (map-append (λ p. p.0) old ((e, code) ∷ []))) (Contains-append_right (map (λ p. p.0) old) (e ∷ []) e (0, omega arith, refl)))

-- where the element types of both are known, each has its codes
pub both_coded : (codes : Codes) (a b : Specifier) → All (IsKnown codes) (distinct (flat_map elements_in (a ∷ b ∷ []))) → HasCodes codes a × HasCodes codes b
both_coded codes a b all =
    let each = all_from_distinct (IsKnown codes) (flat_map elements_in (a ∷ b ∷ [])) (recursion_from_All (IsKnown codes) (distinct (flat_map elements_in (a ∷ b ∷ []))) all) in
    let behind = AllByRecursion-back (IsKnown codes) (elements_in a) (elements_in b ++ []) each in
    (known_codes codes a (AllByRecursion-front (IsKnown codes) (elements_in a) (elements_in b ++ []) each), known_codes codes b (AllByRecursion-front (IsKnown codes) (elements_in b) [] behind))
