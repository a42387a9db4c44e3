-- For any element code some that stands in is in the same code sets.
use Rattle.std.proofs.Common.{ℕ, ◌≡◌, ◌∙◌, sym, ap, refl, ◌+◌, ◌-◌, ◌<◌, ◌≤◌, Bool, true, false, true≢false, nat_lt, not, ◌&&◌, List, [], ◌∷◌, ◌++◌, length, cond, inl, inr, ◌⊎◌, arith, zero, suc, length-append, append_assoc}
use Rattle.std.specs.Prelude.{filter}
use Rattle.std.specs.List.{AllByRecursion, range_with_len}
use Rattle.std.proofs.lemmas.Bool.{and_parts, lt-ltb}
use Rattle.ls_object.specs.declared.table.TheConstants.{TABLE_LEN}
use Rattle.ls_tables.specs.Sets.{is_in, IsLeast}
use Rattle.ls_arrays.specs.declared.atom.ArrayAtom.{ArrayAtom}
use Rattle.ls_arrays.specs.Arrays.{all_below, is_whole, is_named, codes_that}
use Rattle.ls_arrays.specs.steps.Representatives.{SomeOf, first_of, code_stand_ins}
use Rattle.ls_arrays.proofs.ListLemmas.{some_front, some_back, some_weaker, false_or, true_or_false}

-- those of n numbers, from i on, that pass
abbrev passing : (ℕ → Bool) → ℕ → ℕ → List ℕ
passing p i n = filter p (range_with_len i n)

-- a number is the greatest below a bound, or below that one
below_step : (n i : ℕ) → i < suc n → (i ≡ n) ⊎ (i < n)
below_step n i l = grind arith

-- what all_below tests
pub below : (n : ℕ) (p : ℕ → Bool) → all_below n p ≡ true → (i : ℕ) → i < n → p i ≡ true
below zero p h i l = absurd (omega arith)
below (suc n) p h i l = elim (below_step n i l) [
  | inl e ↦ ap p e ∙ (and_parts _ _ h).0
  | inr k ↦ below n p (and_parts _ _ h).1 i k
]

-- each number from a place on that passes is listed
passing_step : (p : ℕ → Bool) (i k : ℕ) (rest : List ℕ) (t : Bool) → p i ≡ t → p k ≡ true → (i ≡ k) ⊎ SomeOf (λ m. m ≡ k) rest → SomeOf (λ m. m ≡ k) (cond t (i ∷ rest) rest)
passing_step p i k rest true e f h = h
passing_step p i k rest false e f (inl is) = absurd (let g = ap p is in cc)
passing_step p i k rest false e f (inr h) = h

-- each number that passes is listed
pub listed : (p : ℕ → Bool) (i n k : ℕ) → i ≤ k → k < i + n → p k ≡ true → SomeOf (λ m. m ≡ k) (passing p i n)
listed p i zero k l m h = absurd (omega arith)
listed p i (suc n) k l m h = passing_step p i k (passing p (i + 1) n) (p i) refl h (elim (below_step k i (omega arith)) [
  | inl e ↦ inl e
  | inr g ↦ inr (listed p (i + 1) n k (omega arith) (omega arith) h)
])

-- the first of these passes, and is within
abbrev Found : (ℕ → Bool) → ℕ → ℕ → Type 0
Found p n m = (m < n) × (p m ≡ true)

-- if some number is listed, the first is as all are
some_first : (P : ℕ → Type 0) (ns : List ℕ) → AllByRecursion P ns → (k : ℕ) → SomeOf (λ m. m ≡ k) ns → SomeOf P (first_of ns)
some_first P [] h k i = absurd i
some_first P (n ∷ ns) h k i = inl h.0

-- one number more
found_step : (p : ℕ → Bool) (n i : ℕ) (rest : List ℕ) (t : Bool) → i < n → p i ≡ t → AllByRecursion (Found p n) rest → AllByRecursion (Found p n) (cond t (i ∷ rest) rest)
found_step p n i rest true l e h = ((l, e), h)
found_step p n i rest false l e h = h

-- all that are listed pass
pub all_found : (p : ℕ → Bool) (i n m : ℕ) → i + n ≤ m → AllByRecursion (Found p m) (passing p i n)
all_found p i zero m l = tt
all_found p i (suc n) m l = found_step p m i (passing p (i + 1) n) (p i) (omega arith) refl (all_found p (i + 1) n m (omega arith))

-- the whole table has each code
pub whole_has : (bits : ℕ) → is_whole bits ≡ true → (k : ℕ) → k < TABLE_LEN → is_in bits k ≡ true
unfolding is_whole
whole_has bits h k l = below TABLE_LEN (λ i. is_in bits i) h k l

-- a code that passes is listed
pub code_listed : (p : ℕ → Bool) (k : ℕ) → k < TABLE_LEN → p k ≡ true → SomeOf (λ m. m ≡ k) (codes_that p)
unfolding codes_that
code_listed p k l h = listed p 0 TABLE_LEN k (omega arith) (omega arith) h

-- all codes that are listed pass
pub codes_found : (p : ℕ → Bool) → AllByRecursion (Found p TABLE_LEN) (codes_that p)
unfolding codes_that
codes_found p = all_found p 0 TABLE_LEN TABLE_LEN (omega arith)

-- the codes are in the same sets of the atoms
abbrev pub AreInSameSets : List ArrayAtom → ℕ → ℕ → Type 0
AreInSameSets atoms x y = AllByRecursion (λ a. is_in a.codes.bits x ≡ is_in a.codes.bits y) atoms

-- equal codes are
same_code : (atoms : List ArrayAtom) (x y : ℕ) → x ≡ y → AreInSameSets atoms x y
same_code [] x y e = tt
same_code (a ∷ atoms) x y e = (ap (is_in a.codes.bits) e, same_code atoms x y e)

-- two codes outside a set, unless it has both
unnamed_one : (w x y : Bool) → (w ≡ true → (x ≡ true) × (y ≡ true)) → (not w && x) ≡ false → (not w && y) ≡ false → x ≡ y
unnamed_one true x y h e f = (h refl).0 ∙ sym (h refl).1
unnamed_one false x y h e f = e ∙ sym f

-- two codes that no set names which isn't the whole table
same_unnamed : (atoms : List ArrayAtom) (x y : ℕ) → x < TABLE_LEN → y < TABLE_LEN → is_named atoms x ≡ false → is_named atoms y ≡ false → AreInSameSets atoms x y
same_unnamed [] x y l k e f = tt
same_unnamed (a ∷ atoms) x y l k e f =
    let g = false_or _ _ e in
    let h = false_or _ _ f in
    (unnamed_one (is_whole a.codes.bits) _ _ (λ w. (whole_has a.codes.bits w x l, whole_has a.codes.bits w y k)) g.0 h.0, same_unnamed atoms x y l k g.1 h.1)

-- a test that is false
not_false : (b : Bool) → not b ≡ true → b ≡ false
not_false true h = absurd (cc)
not_false false h = refl

-- for any code some that stands in is in the same sets
pub code_law : (atoms : List ArrayAtom) (c : ℕ) → c < TABLE_LEN → SomeOf (λ k. AreInSameSets atoms k c) (code_stand_ins atoms)
code_law atoms c l = elim (true_or_false (is_named atoms c)) [
  | inl e ↦ some_front _ (codes_that (is_named atoms)) _ (some_weaker (λ m. m ≡ c) _ (λ m is. same_code atoms m c is) _ (code_listed (is_named atoms) c l e))
  | inr e ↦ some_back _ (codes_that (is_named atoms)) _ (some_weaker (Found (λ k. not (is_named atoms k)) TABLE_LEN) _
      (λ m f. same_unnamed atoms m c f.0 l (not_false _ f.1) e) _
      (some_first _ _ (codes_found (λ k. not (is_named atoms k))) c (code_listed (λ k. not (is_named atoms k)) c l (ap not e))))
]

-- there is one first number at most
length_first : (ns : List ℕ) → length (first_of ns) ≤ 1
length_first [] = omega arith
length_first (n ∷ ns) = omega arith

-- there are few of them
pub length_codes : (atoms : List ArrayAtom) → length (code_stand_ins atoms) ≤ length (codes_that (is_named atoms)) + 1
length_codes atoms =
    let e = length-append (codes_that (is_named atoms)) (first_of (codes_that (λ k. not (is_named atoms k)))) in
    let f = length_first (codes_that (λ k. not (is_named atoms k))) in
    omega arith

-- each is a code
every_both : (P : ℕ → Type 0) (xs ys : List ℕ) → AllByRecursion P xs → AllByRecursion P ys → AllByRecursion P (xs ++ ys)
every_both P [] ys h k = k
every_both P (x ∷ xs) ys h k = (h.0, every_both P xs ys h.1 k)

-- numbers that pass are below the bound
within : (p : ℕ → Bool) (n : ℕ) (ns : List ℕ) → AllByRecursion (Found p n) ns → AllByRecursion (λ c. c < n) ns
within p n [] h = tt
within p n (m ∷ ms) h = (h.0.0, within p n ms h.1)

-- what holds of all holds of the first
first_every : (P : ℕ → Type 0) (ns : List ℕ) → AllByRecursion P ns → AllByRecursion P (first_of ns)
first_every P [] h = tt
first_every P (n ∷ ns) h = (h.0, tt)

-- each is a code of the table
pub are_codes : (atoms : List ArrayAtom) → AllByRecursion (λ c. c < TABLE_LEN) (code_stand_ins atoms)
are_codes atoms = every_both _ (codes_that (is_named atoms)) _
    (within (is_named atoms) TABLE_LEN _ (codes_found (is_named atoms)))
    (first_every _ _ (within (λ k. not (is_named atoms k)) TABLE_LEN _ (codes_found (λ k. not (is_named atoms k)))))

-- ---- for the code

-- what holds of each number below
all_from : (n : ℕ) (p : ℕ → Bool) → ((i : ℕ) → i < n → p i ≡ true) → all_below n p ≡ true
all_from zero p h = refl
all_from (suc n) p h = let e = h n (omega arith) in let f = all_from n p (λ i l. h i (omega arith)) in grind arith

-- a set with each code is the whole table
pub whole_from_all : (bits : ℕ) → ((k : ℕ) → k < TABLE_LEN → is_in bits k ≡ true) → is_whole bits ≡ true
unfolding is_whole
whole_from_all bits h = all_from TABLE_LEN (λ i. is_in bits i) h

-- a set without some code is not
pub not_whole : (bits k : ℕ) → k < TABLE_LEN → is_in bits k ≡ false → is_whole bits ≡ false
not_whole bits k l h = elim (true_or_false (is_whole bits)) [ inl e ↦ absurd (let f = whole_has bits e k l in cc) | inr e ↦ e ]

-- a number before the others, if it passes
more : (t : Bool) (i : ℕ) (rest : List ℕ) → cond t (i ∷ rest) rest ≡ cond t (i ∷ []) [] ++ rest
more true i rest = refl
more false i rest = refl

-- one place more
pub passing_more : (p : ℕ → Bool) (i n : ℕ) → i < n → passing p i (n - i) ≡ cond (p i) (i ∷ []) [] ++ passing p (i + 1) (n - (i + 1))
passing_more p i n l =
    let e : n - i ≡ suc (n - (i + 1)) = omega arith in
    ap (passing p i) e ∙ more (p i) i (passing p (i + 1) (n - (i + 1)))

-- tests that agree list the same numbers
passing_same : (p q : ℕ → Bool) (i n m : ℕ) → i + n ≤ m → ((k : ℕ) → k < m → p k ≡ q k) → passing p i n ≡ passing q i n
passing_same p q i zero m l h = refl
passing_same p q i (suc n) m l h = let e = h i (omega arith) in let r = passing_same p q (i + 1) n m (omega arith) h in cc

-- and the same codes
pub codes_same : (p q : ℕ → Bool) → ((k : ℕ) → k < TABLE_LEN → p k ≡ q k) → codes_that p ≡ codes_that q
unfolding codes_that
codes_same p q h = passing_same p q 0 TABLE_LEN TABLE_LEN (omega arith) h

-- no number is listed where none passes
none_pass : (p : ℕ → Bool) (i n : ℕ) → ((k : ℕ) → p k ≡ false) → passing p i n ≡ []
none_pass p i zero h = refl
none_pass p i (suc n) h = let e = h i in let r = none_pass p (i + 1) n h in rw e r

-- so an empty set lists none
pub no_first : (bits : ℕ) → ((k : ℕ) → is_in bits k ≡ false) → codes_that (λ k. is_in bits k) ≡ []
unfolding codes_that
no_first bits h = none_pass (λ k. is_in bits k) 0 TABLE_LEN h

-- the least number that passes is the first that is listed
first_at : (p : ℕ → Bool) (f i n : ℕ) → i ≤ f → f < i + n → p f ≡ true → ((k : ℕ) → k < f → p k ≡ false) → first_of (passing p i n) ≡ f ∷ []
first_at p f i zero l m h g = absurd (omega arith)
first_at p f i (suc n) l m h g = elim (below_step f i (omega arith)) [
  | inl e ↦ (let k = ap p e ∙ h in rw k (ap (λ j. j ∷ []) e))
  | inr k ↦ (let r = first_at p f (i + 1) n (omega arith) (omega arith) h g in let e = g i k in rw e r)
]

-- so the least code of a set is its first
pub one_first : (bits f : ℕ) → IsLeast TABLE_LEN bits f → first_of (codes_that (λ k. is_in bits k)) ≡ f ∷ []
unfolding codes_that
one_first bits f h = first_at (λ k. is_in bits k) f 0 TABLE_LEN (omega arith) (omega arith) h.has h.least

-- the codes from the first on
pub codes_is : (p : ℕ → Bool) → passing p 0 TABLE_LEN ≡ codes_that p
unfolding codes_that
codes_is p = refl

-- one place more
pub push_more : (made new all : List ℕ) (p : ℕ → Bool) (i n : ℕ) → i < n → new ≡ made ++ cond (p i) (i ∷ []) [] → made ++ passing p i (n - i) ≡ all → new ++ passing p (i + 1) (n - (i + 1)) ≡ all
push_more made new all p i n l e h =
    let f = passing_more p i n l in
    let g = append_assoc made (cond (p i) (i ∷ []) []) (passing p (i + 1) (n - (i + 1))) in
    cc

-- so a code outside a complement is in the set
pub outside_none : (k n : ℕ) (b r : Bool) → k < n → r ≡ (nat_lt k n && not b) → r ≡ false → b ≡ true
outside_none k n true r l e f = refl
outside_none k n false r l e f = absurd (true≢false (sym (e ∙ ap (λ x. x && true) (lt-ltb k n l)) ∙ f))

-- two tests of which the second is false
and_false : (b : Bool) → (b && false) ≡ false
and_false true = refl
and_false false = refl

-- so a code of a complement is not in the set
pub outside_some : (k n : ℕ) (b r : Bool) → r ≡ (nat_lt k n && not b) → r ≡ true → b ≡ false
outside_some k n false r e f = refl
outside_some k n true r e f = absurd (true≢false (sym f ∙ e ∙ and_false (nat_lt k n)))

-- the codes of a complement below the bound
pub complement_below : (k n : ℕ) (b c r : Bool) → k < n → r ≡ (nat_lt k n && not b) → b ≡ c → r ≡ not c
complement_below k n b c r l e f = e ∙ ap (λ x. x && not b) (lt-ltb k n l) ∙ ap not f

-- appending the codes that are named, and the first one that isn't
pub joined : (o p q a b x y : List ℕ) → o ≡ [] → p ≡ o ++ a → q ≡ p ++ first_of b → a ≡ x → b ≡ y → q ≡ x ++ first_of y
joined o p q a b x y e f g h k = rw (g, f, e, h, k) refl
