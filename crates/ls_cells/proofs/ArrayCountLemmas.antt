-- The arrays that stand for all are no more than the candidates.
use Rattle.std.proofs.Common.{ℕ, zero, suc, ◌≡◌, ◌∙◌, refl, sym, ap, subst, ◌+◌, ◌*◌, ◌≤◌, ◌<◌, ◌⊎◌, inl, inr, Bool, true, false, true≢false, not, ◌&&◌, ◌||◌, ◌==◌, cond, min, Option, if◌then◌else◌, List, [], ◌∷◌, ◌++◌, length, arith, length-append}
use Rattle.std.specs.Prelude.{filter}
use Rattle.std.specs.List.{AllByRecursion, flat_map, list_any, range_with_len}
use Rattle.std.proofs.Math.Nat.{le-min}
use Rattle.std.proofs.lemmas.Bool.{cases_Bool, and_parts}
use Rattle.std.proofs.lemmas.Bool.Decides.{Decides-eqb}
use Rattle.std.proofs.lemmas.Nat.{mul-le}
use Rattle.ls_object.specs.declared.table.TheConstants.{TABLE_LEN, NIL_PLACE, BASE_CHAR_PLACE, CHARACTER_PLACE}
use Rattle.ls_object.specs.Universe.{Structures}
use Rattle.ls_tables.specs.Sets.{is_in}
use Rattle.ls_spec.specs.declared.spec.DimPattern.{DimPattern}
use Rattle.ls_spec.specs.Distinct.{distinct}
use Rattle.ls_spec.specs.Membership.{Belongs, UpgradesTo}
use Rattle.ls_spec.specs.Specifier.{Specifier, all_objects, no_objects, and_of, or_of, not_of, eql_to, range_of, chars_of, symbols_of, kind_of, structure_under, any_structure, array_any, array_of, string_of, cons_of, satisfies}
use Rattle.ls_spec.specs.Truth.{is_string_code}
use Rattle.ls_spec.proofs.AlikeLemmas.{AllByRecursion-front, AllByRecursion-back}
use Rattle.ls_spec.proofs.DistinctLemmas.{all_from_distinct, all_of_distinct}
use Rattle.ls_spec.proofs.TruthLemmas.{one_code}
use Rattle.ls_lists.specs.Candidates.{pattern_in, pattern_of, shapes, element_of, is_string, element_codes, arrays}
use Rattle.ls_arrays.specs.declared.atom.ArrayAtom.{ArrayAtom}
use Rattle.ls_arrays.specs.Arrays.{is_whole, is_named, codes_that, patterns, array_limit}
use Rattle.ls_arrays.proofs.CodeLaw.{whole_from_all}
use Rattle.ls_arrays.proofs.ListLemmas.{true_or}
use Rattle.ls_cells.specs.steps.Asking.{IsNotAsked, IsAskedBy, AreAskedBy}

-- ---- numbers that are all in a list are no more than it has

-- the number is in the list
abbrev Has : List ℕ → ℕ → Type 0
Has [] k = ⊥
Has (n ∷ ns) k = (n ≡ k) ⊎ Has ns k

-- what the front of a list has
has_front : (ns ms : List ℕ) (k : ℕ) → Has ns k → Has (ns ++ ms) k
has_front [] ms k h = absurd h
has_front (n ∷ ns) ms k (inl e) = inl e
has_front (n ∷ ns) ms k (inr h) = inr (has_front ns ms k h)

-- what its back has
has_back : (ns ms : List ℕ) (k : ℕ) → Has ms k → Has (ns ++ ms) k
has_back [] ms k h = h
has_back (n ∷ ns) ms k h = inr (has_back ns ms k h)

-- the list without one of its numbers
abbrev without : (ns : List ℕ) (k : ℕ) → Has ns k → List ℕ
without [] k h = absurd h
without (n ∷ ns) k (inl e) = ns
without (n ∷ ns) k (inr h) = n ∷ without ns k h

-- it is shorter by one
length-without : (ns : List ℕ) (k : ℕ) (h : Has ns k) → length ns ≡ suc (length (without ns k h))
length-without [] k h = absurd h
length-without (n ∷ ns) k (inl e) = refl
length-without (n ∷ ns) k (inr h) = ap suc (length-without ns k h)

-- and has the others
has_other : (ns : List ℕ) (k : ℕ) (h : Has ns k) (j : ℕ) → k < j → Has ns j → Has (without ns k h) j
has_other [] k h j l g = absurd h
has_other (n ∷ ns) k (inl e) j l (inl f) = absurd (omega arith)
has_other (n ∷ ns) k (inl e) j l (inr g) = g
has_other (n ∷ ns) k (inr h) j l (inl f) = inl f
has_other (n ∷ ns) k (inr h) j l (inr g) = inr (has_other ns k h j l g)

-- the list has each of n numbers from i on that pass
abbrev HasPassing : (ℕ → Bool) → ℕ → ℕ → List ℕ → Type 0
HasPassing p i n ns = (k : ℕ) → i ≤ k → k < i + n → p k ≡ true → Has ns k

-- one number more
few_step : (p : ℕ → Bool) (i n : ℕ) (ns : List ℕ) (b : Bool) → p i ≡ b → HasPassing p i (suc n) ns
    → ((ms : List ℕ) → HasPassing p (i + 1) n ms → length (filter p (range_with_len (i + 1) n)) ≤ length ms)
    → length (cond b (i ∷ filter p (range_with_len (i + 1) n)) (filter p (range_with_len (i + 1) n))) ≤ length ns
few_step p i n ns true e all rest =
    let h = all i (omega arith) (omega arith) e in
    let l = length-without ns i h in
    let m = rest (without ns i h) (λ k j q t. has_other ns i h k (omega arith) (all k (omega arith) (omega arith) t)) in
    omega arith
few_step p i n ns false e all rest = rest ns (λ k j q t. all k (omega arith) (omega arith) t)

-- so they are no more than it has
few_pass : (p : ℕ → Bool) (i n : ℕ) (ns : List ℕ) → HasPassing p i n ns → length (filter p (range_with_len i n)) ≤ length ns
few_pass p i zero ns all = omega arith
few_pass p i (suc n) ns all = few_step p i n ns (p i) refl all (λ ms more. few_pass p (i + 1) n ms more)

-- one number more
all_step : (b : Bool) (i n : ℕ) (ns : List ℕ) → length ns ≤ n → length (cond b (i ∷ ns) ns) ≤ suc n
all_step true i n ns l = omega arith
all_step false i n ns l = omega arith

-- nor than n
all_pass : (p : ℕ → Bool) (i n : ℕ) → length (filter p (range_with_len i n)) ≤ n
all_pass p i zero = omega arith
all_pass p i (suc n) = all_step (p i) i n (filter p (range_with_len (i + 1) n)) (all_pass p (i + 1) n)

-- so the codes that pass are no more than the table has, nor than a list that has them
few_codes : (p : ℕ → Bool) (ns : List ℕ) → ((k : ℕ) → k < TABLE_LEN → p k ≡ true → Has ns k) → length (codes_that p) ≤ min TABLE_LEN (length ns)
unfolding codes_that
few_codes p ns all = le-min (all_pass p 0 TABLE_LEN) (few_pass p 0 TABLE_LEN ns (λ k _ l e. all k (omega arith) e))

-- ---- the codes that atoms name

-- the upgraded code of each type is known
abbrev Upgrade : Structures → List Specifier → Type 0
Upgrade structures es = AllByRecursion (λ e. (c : ℕ) × UpgradesTo structures e c) es

-- these codes
abbrev codes : (structures : Structures) (es : List Specifier) → Upgrade structures es → List ℕ
codes structures [] h = []
codes structures (e ∷ es) h = h.0.0 ∷ codes structures es h.1

-- as many as the types
length-codes : (structures : Structures) (es : List Specifier) (h : Upgrade structures es) → length (codes structures es h) ≡ length es
length-codes structures [] h = refl
length-codes structures (e ∷ es) h = ap suc (length-codes structures es h.1)

-- the list has each upgraded code of the type
abbrev HasCodeOf : Structures → List ℕ → Specifier → Type 0
HasCodeOf structures ns e = (k : ℕ) → UpgradesTo structures e k → Has ns k

-- a list with these codes has that of each type
each_code : (structures : Structures) (es : List Specifier) (h : Upgrade structures es) (ns : List ℕ) → ((k : ℕ) → Has (codes structures es h) k → Has ns k) → AllByRecursion (HasCodeOf structures ns) es
each_code structures [] h ns into = tt
each_code structures (e ∷ es) h ns into =
    ((λ k up. into k (inl (one_code structures (Belongs structures e) h.0.0 k h.0.1 up))), each_code structures es h.1 ns (λ k g. into k (inr g)))

-- the code of the element type of an atom is known
upgrade_step : (structures : Structures) (s : Specifier) (a : ArrayAtom) (es : List Specifier) → IsAskedBy structures s a → Upgrade structures es → Upgrade structures (element_of s ++ es)
upgrade_step structures (array_of e simple dims) a es h k = ((h.0.0, h.0.1), k)
upgrade_step structures _ a es h k = k

-- and those of all atoms
elements_upgrade : (structures : Structures) (specs : List Specifier) (asked : List ArrayAtom) → AreAskedBy structures specs asked → Upgrade structures (flat_map element_of specs)
elements_upgrade structures [] [] h = tt
elements_upgrade structures (s ∷ specs) (a ∷ asked) h = upgrade_step structures s a (flat_map element_of specs) h.0 (elements_upgrade structures specs asked h.1)
elements_upgrade structures [] (a ∷ asked) h = absurd h
elements_upgrade structures (s ∷ specs) [] h = absurd h

-- the codes of strings
abbrev string_codes : List ℕ
string_codes = NIL_PLACE ∷ BASE_CHAR_PLACE ∷ CHARACTER_PLACE ∷ []

-- one of three tests is true, and it is none of the first two
last : (a b c : Bool) → a ≡ false → b ≡ false → (a || (b || c)) ≡ true → c ≡ true
last a b c f g h = let i = ap (λ x. x || (b || c)) f in let j = ap (λ x. x || c) g in sym j ∙ sym i ∙ h

-- each code of a string is one of them
has_string_code : (k : ℕ) → is_string_code k ≡ true → Has string_codes k
has_string_code k e = elim (cases_Bool (k == NIL_PLACE)) [
  | inl f ↦ inl (sym ((Decides-eqb k NIL_PLACE).0 f))
  | inr f ↦ elim (cases_Bool (k == BASE_CHAR_PLACE)) [
    | inl g ↦ inr (inl (sym ((Decides-eqb k BASE_CHAR_PLACE).0 g)))
    | inr g ↦ inr (inr (inl (sym ((Decides-eqb k CHARACTER_PLACE).0 (last (k == NIL_PLACE) (k == BASE_CHAR_PLACE) (k == CHARACTER_PLACE) f g e)))))
  ]
]

-- the codes of strings, where some atom is a string
abbrev strings : Bool → List ℕ
strings b = if b then string_codes else []

-- a code that a set other than the whole table has is one of a list
abbrev NamesOf : List ℕ → ArrayAtom → ℕ → Type 0
NamesOf ns a k = (not (is_whole a.codes.bits) && is_in a.codes.bits k) ≡ true → Has ns k

-- the code of an element type
named_element : (structures : Structures) (e : Specifier) (simple : Bool) (dims : DimPattern) (a : ArrayAtom) (ns : List ℕ) (k : ℕ) → k < TABLE_LEN → IsAskedBy structures (array_of e simple dims) a
    → HasCodeOf structures ns e → NamesOf ns a k
named_element structures e simple dims a ns k l h has t =
    let same : k ≡ h.0.0 = (Decides-eqb k h.0.0).0 (sym (h.0.2 k l) ∙ (and_parts _ _ t).1) in
    has k (subst (UpgradesTo structures e) (sym same) h.0.1)

-- an atom of any element type names none
named_any : (structures : Structures) (simple : Bool) (dims : DimPattern) (a : ArrayAtom) (ns : List ℕ) (k : ℕ) → IsAskedBy structures (array_any simple dims) a → NamesOf ns a k
named_any structures simple dims a ns k h t = absurd (true≢false (sym (and_parts _ _ t).0 ∙ ap not (whole_from_all a.codes.bits h.0)))

-- nor does one of other objects
named_none : (a : ArrayAtom) (ns : List ℕ) (k : ℕ) → k < TABLE_LEN → IsNotAsked a → NamesOf ns a k
named_none a ns k l h t = absurd (true≢false (sym (and_parts _ _ t).1 ∙ h.0 k l))

-- a string names those of strings
named_string : (structures : Structures) (simple : Bool) (dim : Option ℕ) (a : ArrayAtom) (k : ℕ) → k < TABLE_LEN → IsAskedBy structures (string_of simple dim) a → NamesOf string_codes a k
named_string structures simple dim a k l h t = has_string_code k (sym (h.0 k l) ∙ (and_parts _ _ t).1)

-- what an atom names
named_one : (structures : Structures) (s : Specifier) (a : ArrayAtom) (ns : List ℕ) (k : ℕ) → k < TABLE_LEN → IsAskedBy structures s a → AllByRecursion (HasCodeOf structures ns) (element_of s)
    → (is_string s ≡ true → (k : ℕ) → Has string_codes k → Has ns k) → NamesOf ns a k
named_one structures (array_any simple dims) a ns k l h each str t = named_any structures simple dims a ns k h t
named_one structures (array_of e simple dims) a ns k l h each str t = named_element structures e simple dims a ns k l h each.0 t
named_one structures (string_of simple dim) a ns k l h each str t = str refl k (named_string structures simple dim a k l h t)
named_one structures all_objects a ns k l h each str t = named_none a ns k l h t
named_one structures no_objects a ns k l h each str t = named_none a ns k l h t
named_one structures (and_of ss) a ns k l h each str t = named_none a ns k l h t
named_one structures (or_of ss) a ns k l h each str t = named_none a ns k l h t
named_one structures (not_of s) a ns k l h each str t = named_none a ns k l h t
named_one structures (eql_to p) a ns k l h each str t = named_none a ns k l h t
named_one structures (range_of r lo hi) a ns k l h each str t = named_none a ns k l h t
named_one structures (chars_of c) a ns k l h each str t = named_none a ns k l h t
named_one structures (symbols_of c) a ns k l h each str t = named_none a ns k l h t
named_one structures (kind_of c) a ns k l h each str t = named_none a ns k l h t
named_one structures (structure_under y) a ns k l h each str t = named_none a ns k l h t
named_one structures any_structure a ns k l h each str t = named_none a ns k l h t
named_one structures (cons_of x y) a ns k l h each str t = named_none a ns k l h t
named_one structures (satisfies p) a ns k l h each str t = named_none a ns k l h t

-- the second of two tests
or_back : (a b : Bool) → b ≡ true → (a || b) ≡ true
or_back true b e = refl
or_back false b e = e

-- what atoms name
named_codes : (structures : Structures) (specs : List Specifier) (asked : List ArrayAtom) (ns : List ℕ) (k : ℕ) → k < TABLE_LEN → AreAskedBy structures specs asked
    → AllByRecursion (HasCodeOf structures ns) (flat_map element_of specs) → (list_any is_string specs ≡ true → (k : ℕ) → Has string_codes k → Has ns k) → is_named asked k ≡ true → Has ns k
named_codes structures [] [] ns k l h each str t = absurd (true≢false (sym t))
named_codes structures (s ∷ specs) (a ∷ asked) ns k l h each str t = elim (true_or (not (is_whole a.codes.bits) && is_in a.codes.bits k) (is_named asked k) t) [
  | inl u ↦ named_one structures s a ns k l h.0 (AllByRecursion-front (HasCodeOf structures ns) (element_of s) (flat_map element_of specs) each)
      (λ e. str (ap (λ b. b || list_any is_string specs) e)) u
  | inr u ↦ named_codes structures specs asked ns k l h.1 (AllByRecursion-back (HasCodeOf structures ns) (element_of s) (flat_map element_of specs) each)
      (λ e. str (or_back (is_string s) (list_any is_string specs) e)) u
]
named_codes structures [] (a ∷ asked) ns k l h each str t = absurd h
named_codes structures (s ∷ specs) [] ns k l h each str t = absurd h

-- three codes, where some atom is a string
length-strings : (b : Bool) → length (strings b) ≡ (if b then 3 else 0)
length-strings true = refl
length-strings false = refl

-- the atoms name no more codes than they have element types, and those of strings
few_named : (structures : Structures) (specs : List Specifier) (asked : List ArrayAtom) → AreAskedBy structures specs asked → length (codes_that (is_named asked)) ≤ element_codes specs
few_named structures specs asked h =
    let es = flat_map element_of specs in
    let b = list_any is_string specs in
    let known : Upgrade structures (distinct (flat_map element_of specs)) = all_of_distinct (λ e. (c : ℕ) × UpgradesTo structures e c) es (elements_upgrade structures specs asked h) in
    let own = codes structures (distinct es) known in
    let ns = own ++ strings b in
    let each = all_from_distinct (HasCodeOf structures ns) es (each_code structures (distinct es) known ns (λ k g. has_front own (strings b) k g)) in
    let count : length ns ≡ length (distinct es) + (if b then 3 else 0) =
    length-append own (strings b) ∙ ap (λ (m : ℕ). m + length (strings b)) (length-codes structures (distinct es) known) ∙ ap (λ (m : ℕ). length (distinct es) + m) (length-strings b) in
    subst (λ (m : ℕ). length (codes_that (is_named asked)) ≤ min TABLE_LEN m) count
    (few_codes (is_named asked) ns (λ k l t. named_codes structures specs asked ns k l h each (λ e j g. has_back own (strings b) j (subst (λ c. Has (strings c) j) (sym e) g)) t))

-- ---- the shapes

-- what an atom asks of the dimensions is what its specifier does
pattern_one : (structures : Structures) (s : Specifier) (a : ArrayAtom) → IsAskedBy structures s a → pattern_in a.dims ≡ pattern_of s
pattern_one structures (array_any simple dims) a h = ap pattern_in h.1.1
pattern_one structures (array_of e simple dims) a h = ap pattern_in h.1.1
pattern_one structures (string_of simple dim) a h = ap pattern_in h.1.1
pattern_one structures all_objects a h = ap pattern_in h.1.1
pattern_one structures no_objects a h = ap pattern_in h.1.1
pattern_one structures (and_of ss) a h = ap pattern_in h.1.1
pattern_one structures (or_of ss) a h = ap pattern_in h.1.1
pattern_one structures (not_of s) a h = ap pattern_in h.1.1
pattern_one structures (eql_to p) a h = ap pattern_in h.1.1
pattern_one structures (range_of r lo hi) a h = ap pattern_in h.1.1
pattern_one structures (chars_of c) a h = ap pattern_in h.1.1
pattern_one structures (symbols_of c) a h = ap pattern_in h.1.1
pattern_one structures (kind_of c) a h = ap pattern_in h.1.1
pattern_one structures (structure_under y) a h = ap pattern_in h.1.1
pattern_one structures any_structure a h = ap pattern_in h.1.1
pattern_one structures (cons_of x y) a h = ap pattern_in h.1.1
pattern_one structures (satisfies p) a h = ap pattern_in h.1.1

-- and of a list
patterns_are : (structures : Structures) (specs : List Specifier) (asked : List ArrayAtom) → AreAskedBy structures specs asked → patterns asked ≡ flat_map pattern_of specs
patterns_are structures [] [] h = refl
patterns_are structures (s ∷ specs) (a ∷ asked) h =
    ap (λ ps. ps ++ patterns asked) (pattern_one structures s a h.0) ∙ ap (λ ps. pattern_of s ++ ps) (patterns_are structures specs asked h.1)
patterns_are structures [] (a ∷ asked) h = absurd h
patterns_are structures (s ∷ specs) [] h = absurd h

-- ---- the arrays

-- the arrays that stand for all are no more than the candidates
pub few_arrays : (structures : Structures) (specs : List Specifier) (asked : List ArrayAtom) → AreAskedBy structures specs asked → array_limit asked ≤ arrays specs
unfolding arrays
few_arrays structures specs asked h =
    let few = few_named structures specs asked h in
    let same : shapes (patterns asked) ≡ shapes (flat_map pattern_of specs) = ap shapes (patterns_are structures specs asked h) in
    product_within (length (codes_that (is_named asked))) (element_codes specs) (shapes (patterns asked)) (shapes (flat_map pattern_of specs)) few same
  where
    product_within : (a b s t : ℕ) → a ≤ b → s ≡ t → 2 * (a + 1) * (1 + s) ≤ 2 * (b + 1) * (1 + t)
    product_within a b s t l e = mul-le (2 * (a + 1)) (1 + s) (2 * (b + 1)) (1 + t) (omega arith) (omega arith)

-- a product of numbers that are not 0
some_product : (a b : ℕ) → 1 ≤ 2 * (a + 1) * (1 + b)
some_product a b = mul-le 1 1 (2 * (a + 1)) (1 + b) (omega arith) (omega arith)

-- one array is among them
pub some_array : (specs : List Specifier) → 1 ≤ arrays specs
unfolding arrays
some_array specs = some_product (element_codes specs) (shapes (flat_map pattern_of specs))
