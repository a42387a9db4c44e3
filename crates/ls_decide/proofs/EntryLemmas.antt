-- The types of the entries of the upgrading table, and the rows of a list with them.
use Rattle.std.proofs.Common.{ℕ, zero, suc, ◌≡◌, ◌<◌, ◌+◌, refl, sym, ◌∙◌, ap, subst, List, [], ◌∷◌, map, length, get_or, arith, Bool, true, false, ◌⊎◌, inl, inr, All}
use Rattle.std.specs.Prelude.{slice_get, slice_index_or}
use Rattle.std.specs.Bool.{Decides}
use Rattle.std.specs.List.{AllByRecursion, Contains}
use Rattle.std.proofs.lemmas.List.{length-map}
use Rattle.std.proofs.lemmas.List.Elements.{All-from_recursion}
use Rattle.ls_object.specs.Universe.{LispObject, node, Structures}
use Rattle.ls_object.specs.Table.{Holds}
use Rattle.ls_object.specs.declared.table.TheConstants.{UPGRADING_TABLE, TABLE_LEN}
use Rattle.ls_spec.specs.Specifier.{Specifier, no_objects}
use Rattle.ls_spec.specs.Membership.{UpgradesTo}
use Rattle.ls_spec.specs.Inclusion.{IsIncluded}
use Rattle.ls_spec.proofs.EntryLemmas.{Belongs-code}
use Rattle.ls_object.specs.declared.table.Entry.{Entry}
use Rattle.ls_spec.specs.Entries.{entry_specifier, specifier_at, code_specifier}
use Rattle.ls_spec.specs.Distinct.{distinct}
use Rattle.ls_spec.specs.Fits.{Fits}
use Rattle.ls_spec.proofs.DistinctLemmas.{all_from_distinct, all_of_distinct}
use Rattle.ls_spec.specs.Approximation.{HasNoPredicate}
use Rattle.ls_spec.specs.Truth.{Learnt, IsLearnt}
use Rattle.ls_lists.specs.Costs.{table_specifiers}
use Rattle.ls_intern.specs.Places.{at, specifiers_at}
use Rattle.ls_cells.specs.Codes.{Codes, HasCodes}
use Rattle.ls_decide.specs.Sessions.{element_list}
use Rattle.ls_decide.proofs.PairLemmas.{each_itself}

-- they fit, and have no element type
pub entries_fit : (structures : Structures) → AllByRecursion (Fits structures) table_specifiers
entries_fit structures = (
  (tt, (tt, omega arith)),
  (
    (tt, (((omega arith, omega arith), (omega arith, omega arith)), omega arith)),
    (
      (tt, (((omega arith, omega arith), (omega arith, omega arith)), omega arith)),
      (
        (tt, (((omega arith, omega arith), (omega arith, omega arith)), omega arith)),
        (
          (tt, (((omega arith, omega arith), (omega arith, omega arith)), omega arith)),
          (
            (tt, (((omega arith, omega arith), (omega arith, omega arith)), omega arith)),
            (
              (tt, (((omega arith, omega arith), (omega arith, omega arith)), omega arith)),
              (
                (tt, (((omega arith, omega arith), (omega arith, omega arith)), omega arith)),
                (
                  (tt, (((omega arith, omega arith), (omega arith, omega arith)), omega arith)),
                  (
                    (tt, (((omega arith, omega arith), (omega arith, omega arith)), omega arith)),
                    (
                      (tt, (((omega arith, omega arith), (omega arith, omega arith)), omega arith)),
                      (
                        (tt, (((omega arith, omega arith), (omega arith, omega arith)), omega arith)),
                        (
                          (tt, (((omega arith, omega arith), (omega arith, omega arith)), omega arith)),
                          (
                            (tt, (((omega arith, omega arith), (omega arith, omega arith)), omega arith)),
                            (
                              (tt, (tt, omega arith)),
                              (
                                (tt, (tt, omega arith)),
                                (
                                  (tt, (tt, omega arith)),
                                  (
                                    (tt, (tt, omega arith)),
                                    (
                                      (tt, (tt, omega arith)),
                                      tt,
                                    ),
                                  ),
                                ),
                              ),
                            ),
                          ),
                        ),
                      ),
                    ),
                  ),
                ),
              ),
            ),
          ),
        ),
      ),
    ),
  ),
)

pub entries_coded : (codes : Codes) → AllByRecursion (HasCodes codes) table_specifiers
entries_coded codes = _

pub entries_sure : AllByRecursion HasNoPredicate table_specifiers
entries_sure = _

pub entries_learnt : (structures : Structures) (learnt : Learnt) → AllByRecursion (IsLearnt structures learnt) table_specifiers
entries_learnt structures learnt = _

-- ---- the entry at a place

-- it is the type of the code
pub entry_at : (c : ℕ) → c < TABLE_LEN → (d : Specifier) → get_or table_specifiers c d ≡ code_specifier c
entry_at c h d = go UPGRADING_TABLE c h
  where
    go : (entries : List Entry) (i : ℕ) → i < length entries → get_or (map entry_specifier entries) i d ≡ specifier_at (slice_get entries i)
    go [] i lt = absurd (omega (arith, lt))
    go (e ∷ entries) zero lt = refl
    go (e ∷ entries) (suc i) lt = go entries i (omega (arith, lt))

-- a list by its numbers, at a place
pub at_map : {X : Type 0} (f : ℕ → X) (xs : List ℕ) (i d : ℕ) → get_or (map f xs) i (f d) ≡ f (get_or xs i d)
at_map f [] i d = refl
at_map f (x ∷ xs) zero d = refl
at_map f (x ∷ xs) (suc i) d = at_map f xs i d

-- the number at a place of the entries is that of the type of the code
pub entry_named : (known : List Specifier) (ids : List ℕ) (c : ℕ) → specifiers_at known ids ≡ table_specifiers → c < TABLE_LEN → at known (slice_index_or ids c 0) ≡ code_specifier c
entry_named known ids c are h = sym (at_map (at known) ids c 0) ∙ ap (λ (l : List Specifier). get_or l c (at known 0)) are ∙ entry_at c h (at known 0)

-- so there are as many numbers as entries
pub entries_long : (known : List Specifier) (ids : List ℕ) → specifiers_at known ids ≡ table_specifiers → length ids ≡ TABLE_LEN
entries_long known ids are = sym (length-map ids (at known)) ∙ ap length are

-- what holds of all entries holds of the type of a code
pub entry_has : (P : Specifier → Type 0) → AllByRecursion P table_specifiers → (c : ℕ) → c < TABLE_LEN → P (code_specifier c)
entry_has P all c h =
    let d = no_objects in
    subst P (entry_at c h d) (All-from_recursion P table_specifiers all c d (omega (arith, h)))

-- ---- the first entry that holds a type

here_or_before : (b c : ℕ) → b < c + 1 → (b ≡ c) ⊎ (b < c)
here_or_before zero zero h = inl refl
here_or_before zero (suc c) h = inr (omega arith)
here_or_before (suc b) zero h = absurd (omega (arith, h))
here_or_before (suc b) (suc c) h = elim (here_or_before b c (omega (arith, h))) [ inl e ↦ inl (ap suc e) | inr l ↦ inr (omega (arith, l)) ]

module _ (structures : Structures) (e : Specifier) where
  -- no entry before this place holds all of it
  abbrev pub NoneBefore : ℕ → Type 0
  NoneBefore place = (b : ℕ) → b < place → IsIncluded structures e (code_specifier b) → ⊥

  -- the entry at the place does
  pub upgrades_at : (c : ℕ) → c < TABLE_LEN → NoneBefore c → IsIncluded structures e (code_specifier c) → UpgradesTo structures e c
  upgrades_at c h none here = record {
    in_table = h;
    holds = λ o object belongs. (Belongs-code structures c o object).0 (here o object belongs);
    first = λ b lt all. none b lt (λ o object belongs. (Belongs-code structures b o object).1 (all o object belongs));
  }

  -- the last entry holds everything
  pub upgrades_last : (c : ℕ) → c ≡ 18 → NoneBefore c → UpgradesTo structures e 18
  upgrades_last c is none =
      upgrades_at 18 (omega arith) (λ b lt. none b (omega (arith, is, lt))) (λ o object belongs. (Belongs-code structures 18 o object).1 (by o))
    where
      by : (o : LispObject) → Holds 18 o
      by (node marks shape) = tt

  -- the one at the place does not either
  pub none_more : (c : ℕ) (held : Bool) → NoneBefore c → Decides held (IsIncluded structures e (code_specifier c)) → held ≡ false → NoneBefore (c + 1)
  none_more c held none told failed b lt here = by (here_or_before b c lt)
    where
      by : (b ≡ c) ⊎ (b < c) → ⊥
      by (inl same) = absurd (let t : held ≡ true = told.1 (subst (λ k. IsIncluded structures e (code_specifier k)) same here) in cc)
      by (inr less) = none b less here

-- ---- the list of a type and the entries

pub element_list_is : (e : Specifier) → element_list e ≡ distinct (e ∷ table_specifiers)
unfolding element_list
element_list_is e = refl

-- the list by its numbers in a table that was lent
pub listed_with : (lent known : List Specifier) (ids slice entries : List ℕ) (id : ℕ) → lent ≡ known → slice ≡ ids
    → specifiers_at lent ids ≡ distinct (at lent id ∷ specifiers_at lent entries) → specifiers_at known entries ≡ table_specifiers → specifiers_at known slice ≡ element_list (at known id)
listed_with lent known ids slice entries id f s are is =
    ap (specifiers_at known) s ∙ subst (λ (k : List Specifier). specifiers_at k ids ≡ distinct (at k id ∷ specifiers_at k entries)) f are
    ∙ ap (λ (l : List Specifier). distinct (at known id ∷ l)) is ∙ sym (element_list_is (at known id))

-- what holds of the type and of all entries holds of each of the list
pub list_all : (P : Specifier → Type 0) (list : List Specifier) (e : Specifier) → list ≡ element_list e → P e → AllByRecursion P table_specifiers → All P list
list_all P list e is one others =
    subst (All P) (sym (is ∙ element_list_is e)) (All-from_recursion P (distinct (e ∷ table_specifiers)) (all_of_distinct P (e ∷ table_specifiers) (one, others)))

-- the list has a specifier
pub list_some : (known : List Specifier) (ids : List ℕ) (e : Specifier) → specifiers_at known ids ≡ element_list e → 0 < length ids
list_some known ids e is =
    let here : Contains (distinct (e ∷ table_specifiers)) e = (all_from_distinct (Contains (distinct (e ∷ table_specifiers))) (e ∷ table_specifiers) (each_itself (distinct (e ∷ table_specifiers)))).0 in
    let long : length ids ≡ length (distinct (e ∷ table_specifiers)) = sym (length-map ids (at known)) ∙ ap length (is ∙ element_list_is e) in
    let lt : here.0 < length (distinct (e ∷ table_specifiers)) = here.1 in
    omega (arith, long, lt)
