-- The EQL atoms of a list are found by their keys.
use Rattle.std.proofs.Common.{ℕ, zero, suc, ◌≡◌, ◌∙◌, ◌+◌, ◌<◌, ◌≤◌, ◌⊎◌, ◌↔◌, inl, inr, refl, ap, sym, subst, arith, Bool, true, false, nat_eq, if◌then◌else◌, List, [], ◌∷◌, ◌++◌, length, map, get_or, set, Decides, All, Contains}
use Rattle.std.specs.Prelude.{Option, Some, None, slice_get}
use Rattle.std.specs.Option.{option_map}
use Rattle.std.specs.Cmp.Lexicographic.{pointwise}
use Rattle.std.proofs.lemmas.Bool.{cases_eq}
use Rattle.std.proofs.lemmas.List.{same_lists, get_or_default, length-map, get_or-map, get_or-set_same, get_or-set_other}
use Rattle.std.proofs.lemmas.List.Elements.{All-push, All-weaker, Contains-push, Contains-append_left}
use Rattle.std.proofs.lemmas.Option.{slice_get_within, get_or_from_slice_get, slice_get-map, slice_get_read}
use Rattle.ls_object.specs.Universe.{LispObject, Structures, node, plain}
use Rattle.ls_object.proofs.SymbolLemmas.{Decides-text}
use Rattle.ls_spec.specs.declared.spec.Point.{Point}
use Rattle.ls_spec.specs.declared.spec.Spec.{Spec}
use Rattle.ls_spec.specs.Meaning.{specifier}
use Rattle.ls_spec.specs.Specifier.{Specifier, eql_to}
use Rattle.ls_spec.specs.Keys.{key}
use Rattle.ls_spec.specs.Membership.{Belongs}
use Rattle.ls_spec.specs.Truth.{Learnt, holds, IsLearnt}
use Rattle.ls_memo.specs.Kept.{kept_for}
use Rattle.ls_cells.specs.declared.index.Index.{Index}
use Rattle.ls_cells.specs.Signs.{at}
use Rattle.ls_cells.specs.Cells.{signs_at}
use Rattle.ls_cells.proofs.ClassLemmas.{decided_is}
use Rattle.ls_cells.specs.steps.Index.{is_eql, IsEql, AreFound, IsEqlAt, IsIndexOf, AddsAtom}

-- what is kept for a key stays kept behind more
kept_more : (q : List ℕ) (names more : List (List ℕ × ℕ)) (i : ℕ) → kept_for q names ≡ Some i → kept_for q (names ++ more) ≡ Some i
kept_more q [] more i e = absurd cc
kept_more q (n ∷ names) more i e = by_test (pointwise nat_eq q n.0) refl (kept_more q names more i)
  where
    by_test : (b : Bool) → pointwise nat_eq q n.0 ≡ b → (kept_for q names ≡ Some i → kept_for q (names ++ more) ≡ Some i) → kept_for q ((n ∷ names) ++ more) ≡ Some i
    by_test true t rest =
        ap (λ b. if b then Some n.1 else kept_for q (names ++ more)) t ∙ sym (ap (λ b. if b then Some n.1 else kept_for q names) t) ∙ e
    by_test false t rest =
        ap (λ b. if b then Some n.1 else kept_for q (names ++ more)) t
        ∙ rest (sym (ap (λ b. if b then Some n.1 else kept_for q names) t) ∙ e)

-- what is kept with one entry more was kept, or it is the new entry's
kept_cases : (q : List ℕ) (names : List (List ℕ × ℕ)) (k : List ℕ) (j i : ℕ) → kept_for q (names ++ (k, j) ∷ []) ≡ Some i
    → (kept_for q names ≡ Some i) ⊎ ((q ≡ k) × (i ≡ j))
kept_cases q [] k j i e = by_test (pointwise nat_eq q k) refl
  where
    by_test : (b : Bool) → pointwise nat_eq q k ≡ b → (kept_for q [] ≡ Some i) ⊎ ((q ≡ k) × (i ≡ j))
    by_test true t = let f = sym (ap (λ b. if b then Some j else None) t) ∙ e in inr ((Decides-text q k).0 t, cc)
    by_test false t = let f = sym (ap (λ b. if b then Some j else None) t) ∙ e in absurd cc
kept_cases q (n ∷ names) k j i e = by_test (pointwise nat_eq q n.0) refl (kept_cases q names k j i)
  where
    by_test : (b : Bool) → pointwise nat_eq q n.0 ≡ b → (kept_for q (names ++ (k, j) ∷ []) ≡ Some i → (kept_for q names ≡ Some i) ⊎ ((q ≡ k) × (i ≡ j)))
        → (kept_for q (n ∷ names) ≡ Some i) ⊎ ((q ≡ k) × (i ≡ j))
    by_test true t rest =
        inl (ap (λ b. if b then Some n.1 else kept_for q names) t ∙ sym (ap (λ b. if b then Some n.1 else kept_for q (names ++ (k, j) ∷ [])) t) ∙ e)
    by_test false t rest = elim (rest (sym (ap (λ b. if b then Some n.1 else kept_for q (names ++ (k, j) ∷ [])) t) ∙ e)) [
      | inl f ↦ inl (ap (λ b. if b then Some n.1 else kept_for q names) t ∙ f)
      | inr h ↦ inr h
    ]

-- the new entry is found
kept_last : (k : List ℕ) (names : List (List ℕ × ℕ)) (j : ℕ) → kept_for k names ≡ None → kept_for k (names ++ (k, j) ∷ []) ≡ Some j
kept_last k [] j e = ap (λ b. if b then Some j else None) ((Decides-text k k).1 refl)
kept_last k (n ∷ names) j e = by_test (pointwise nat_eq k n.0) refl (kept_last k names j)
  where
    by_test : (b : Bool) → pointwise nat_eq k n.0 ≡ b → (kept_for k names ≡ None → kept_for k (names ++ (k, j) ∷ []) ≡ Some j) → kept_for k ((n ∷ names) ++ (k, j) ∷ []) ≡ Some j
    by_test true t rest = let f = sym (ap (λ b. if b then Some n.1 else kept_for k names) t) ∙ e in absurd cc
    by_test false t rest =
        ap (λ b. if b then Some n.1 else kept_for k (names ++ (k, j) ∷ [])) t
        ∙ rest (sym (ap (λ b. if b then Some n.1 else kept_for k names) t) ∙ e)

-- an index of no atom
pub index_none : (atoms : List Specifier) (index : Index) → index.names ≡ [] → index.others ≡ [] → IsIndexOf atoms 0 index
index_none atoms index e f = record {
  others = λ i d l. absurd (omega (arith, ap length f));
  named = λ q i g. let h = sym (ap (kept_for q) e) ∙ g in absurd cc;
  each = λ i l. absurd (omega arith);
}

-- an EQL atom is one for a point
eql_at : (atoms : List Specifier) (s : Specifier) (i : ℕ) → IsEql s → slice_get atoms i ≡ Some s → IsEqlAt atoms (key s) i
eql_at atoms (eql_to p) i h e = (p, e, refl)
eql_at atoms _ i h e = absurd h

-- an index of one atom more
pub index_more : (atoms : List Specifier) (n : ℕ) (s : Specifier) (old new : Index) → slice_get atoms n ≡ Some s → IsIndexOf atoms n old → AddsAtom s n old new → IsIndexOf atoms (n + 1) new
index_more atoms n s old new e h (inl (f, g)) = record {
  others =
      subst (All (λ i. i < n + 1)) (sym g)
      (All-push (λ i. i < n + 1) old.others n (All-weaker (λ i. i < n) (λ i. i < n + 1) (λ i l. omega arith) old.others h.others) (omega arith));
  named = λ q i k. let t = h.named q i (sym (ap (kept_for q) f) ∙ k) in (omega (arith, t.0), t.1);
  each = λ i l. elim (cases_eq i n) [
    | inl m ↦ inl (subst (λ xs. Contains xs i) (sym g) (subst (Contains (old.others ++ n ∷ [])) (sym m) (Contains-push old.others n)))
    | inr m ↦ elim (h.each i (omega (arith, m))) [
      | inl c ↦ inl (subst (λ xs. Contains xs i) (sym g) (Contains-append_left old.others (n ∷ []) i c))
      | inr c ↦ inr (c.0, ap (kept_for c.0) f ∙ c.1)
    ]
  ];
}
index_more atoms n s old new e h (inr (a, b, f, g)) = record {
  others = subst (All (λ i. i < n + 1)) (sym g) (All-weaker (λ i. i < n) (λ i. i < n + 1) (λ i l. omega arith) old.others h.others);
  named = λ q i k. elim (kept_cases q old.names (key s) n i (sym (ap (kept_for q) f) ∙ k)) [
    | inl t ↦ (let w = h.named q i t in (omega (arith, w.0), w.1))
    | inr t ↦ (
      omega (arith, t.1),
      subst (λ x. IsEqlAt atoms x i) (sym t.0) (subst (IsEqlAt atoms (key s)) (sym t.1) (eql_at atoms s n a e)),
    )
  ];
  each = λ i l. elim (cases_eq i n) [
    | inl m ↦ inr (key s, ap (kept_for (key s)) f ∙ kept_last (key s) old.names n b ∙ ap Some (sym m))
    | inr m ↦ elim (h.each i (omega (arith, m))) [
      | inl c ↦ inl (subst (λ xs. Contains xs i) (sym g) c)
      | inr c ↦ inr (c.0, ap (kept_for c.0) f ∙ kept_more c.0 old.names ((key s, n) ∷ []) i c.1)
    ]
  ];
}

-- the atom at a place of the list
pub atom_at : (atoms : List Spec) (i : ℕ) (a : Spec) → i < length atoms → a ≡ get_or atoms i a → slice_get (map specifier atoms) i ≡ Some (specifier a)
atom_at atoms i a l e = slice_get-map specifier atoms i ∙ ap (option_map specifier) (slice_get_read atoms (length atoms) i a refl l e)

-- nothing is kept for the key that was looked for
pub absent_is : (r : Option ℕ) (names : List (List ℕ × ℕ)) (k l : List ℕ) → r ≡ kept_for k names → r ≡ None → k ≡ l → kept_for l names ≡ None
absent_is r names k l e f g = ap (λ q. kept_for q names) (sym g) ∙ sym e ∙ f

-- an index of the same atoms
pub same_atoms : (atoms these : List Spec) (index : Index) → these ≡ atoms → IsIndexOf (map specifier these) (length these) index → IsIndexOf (map specifier atoms) (length atoms) index
same_atoms atoms these index e h = subst (λ xs. IsIndexOf (map specifier xs) (length xs) index) e h

-- the number stands in the list, at this place or after it
abbrev pub IsFrom : List ℕ → ℕ → ℕ → Type 0
IsFrom xs k x = (m : ℕ) × (k ≤ m) × (m < length xs) × (get_or xs m x ≡ x)

-- an EQL holds of the plain form of an object exactly where that is the point
eql_holds : (learnt : Learnt) (p : Point) (o : LispObject) → is_eql p o ≡ holds learnt (eql_to p) (plain o)
eql_holds learnt p (node marks shape) = refl

-- the truth value of one atom in the row
sign_of : (learnt : Learnt) (atoms : List Specifier) (o : LispObject) (i : ℕ) (s : Specifier) → slice_get atoms i ≡ Some s → at (signs_at learnt atoms o) i ≡ holds learnt s o
sign_of learnt atoms o i s e =
    get_or-map (λ t. holds learnt t o) atoms i s false (slice_get_within atoms i s e) ∙ ap (λ t. holds learnt t o) (get_or_from_slice_get atoms i s s e)

-- what is found is right, but for the other atoms
pub found_right : (learnt : Learnt) (atoms : List Specifier) (index : Index) (m n : ℕ) (o : LispObject) (signs : List Bool) → IsIndexOf atoms m index → AreFound n index.names o signs
    → (i : ℕ) → i < m → (at signs i ≡ at (signs_at learnt atoms (plain o)) i) ⊎ IsFrom index.others 0 i
found_right learnt atoms index m n o signs h found i l = elim (h.each i l) [
  | inl c ↦ inr (c.0, omega arith, c.1, c.2)
  | inr c ↦ (let w = h.named c.0 i c.1 in
      inl (
      found.told w.1.0 i (ap (λ q. kept_for q index.names) (sym w.1.2) ∙ c.1) ∙ eql_holds learnt w.1.0 o
      ∙ sym (sign_of learnt atoms (plain o) i (eql_to w.1.0) w.1.1)
      ))
]

-- one of the other atoms more is right
pub set_right : (others : List ℕ) (k place : ℕ) (old new right : List Bool) (value : Bool) → new ≡ set old place value → place < length old → place ≡ get_or others k place → value ≡ at right place
    → (i : ℕ) → (at old i ≡ at right i) ⊎ IsFrom others k i → (at new i ≡ at right i) ⊎ IsFrom others (k + 1) i
set_right others k place old new right value is l here e i before = elim (cases_eq i place) [
  | inl m ↦ inl (ap (λ xs. at xs i) is ∙ ap (at (set old place value)) m ∙ get_or-set_same old place value false l ∙ e ∙ ap (at right) (sym m))
  | inr m ↦ elim before [
    | inl f ↦ inl (ap (λ xs. at xs i) is ∙ get_or-set_other old place i value false m ∙ f)
    | inr t ↦ elim (cases_eq t.0 k) [
      | inl g ↦ absurd (m (sym t.3 ∙ ap (λ x. get_or others x i) g ∙ same_at others k place i (subst (λ x. x < length others) g t.2) here))
      | inr g ↦ inr (t.0, omega (arith, t.1, g), t.2, t.3)
    ]
  ]
]
  where
    same_at : (xs : List ℕ) (j x d : ℕ) → j < length xs → x ≡ get_or xs j x → get_or xs j d ≡ x
    same_at [] j x d q f = absurd (omega arith)
    same_at (y ∷ ys) zero x d q f = sym f
    same_at (y ∷ ys) (suc j) x d q f = same_at ys j x d (omega arith) f

-- the value of an atom that was tested is the one of the row
pub tested : (structures : Structures) (learnt : Learnt) (IsIn : Spec → LispObject → Type 0) → ((a : Spec) (o : LispObject) → IsIn a o ↔ Belongs structures (specifier a) o)
    → (atoms : List Spec) (place : ℕ) (a : Spec) (o : LispObject) (r : Bool) → place < length atoms → a ≡ get_or atoms place a → All (IsLearnt structures learnt) (map specifier atoms)
    → Decides r (IsIn a o) → r ≡ at (signs_at learnt (map specifier atoms) o) place
tested structures learnt IsIn meaning atoms place a o r l e known d =
    let there = atom_at atoms place a l e in
    let here : IsLearnt structures learnt (specifier a) = subst (IsLearnt structures learnt) (get_or_from_slice_get (map specifier atoms) place (specifier a) (specifier a) there) (known place (specifier a) (slice_get_within (map specifier atoms) place (specifier a) there)) in
    decided_is structures learnt IsIn meaning a o r here d ∙ sym (sign_of learnt (map specifier atoms) o place (specifier a) there)

-- with no other atom left all values are right
pub all_right : (others : List ℕ) (k : ℕ) (signs right : List Bool) → length others ≤ k → length signs ≡ length right → ((i : ℕ) → i < length right → (at signs i ≡ at right i) ⊎ IsFrom others k i) → signs ≡ right
all_right others k signs right l e each =
    same_lists signs right e (λ i d m.
    get_or_default signs i d false m ∙ here i (each i (omega (arith, m, e))) ∙ sym (get_or_default right i d false (omega (arith, m, e))))
  where
    here : (i : ℕ) → (at signs i ≡ at right i) ⊎ IsFrom others k i → at signs i ≡ at right i
    here i (inl f) = f
    here i (inr t) = absurd (omega (arith, t.1, t.2, l))

-- how long a row is
pub signs_long : (learnt : Learnt) (atoms : List Spec) (o : LispObject) → length (signs_at learnt (map specifier atoms) o) ≡ length atoms
signs_long learnt atoms o = length-map (map specifier atoms) (λ s. holds learnt s o) ∙ length-map atoms specifier
