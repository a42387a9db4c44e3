-- Parts that pass the test are right, and then they tell what comes back.
use Rattle.std.proofs.Common.{◌≡◌, ◌↔◌, ℕ, zero, suc, inl, inr, ◌+◌, ◌<◌, ◌≤◌, List, [], ◌∷◌, ◌++◌, Bool, true, false, Option, Some, None, length, map, refl, sym, ap, subst, ◌∙◌, arith, IsTrue}
use Rattle.std.proofs.lemmas.Bool.{and_parts}
use Rattle.std.proofs.lemmas.Bool.Decides.{nat_tests}
use Rattle.std.proofs.lemmas.List.Folds.{list_all-append}
use Rattle.std.proofs.lemmas.List.FromFn.{map-range_with_len_more}
use Rattle.std.specs.Prelude.{nat_le, nat_lt, slice_get, ◌==◌, ◌&&◌, ◌||◌, ◌⊎◌}
use Rattle.std.specs.Bool.{one_answer}
use Rattle.std.specs.List.{list_all, list_any, range_with_len}
use Rattle.ls_env.specs.declared.parts.Parts.{Parts}
use Rattle.ls_env.specs.Reaching.{In, body, Reaches, InRange, comes_back}
use Rattle.ls_env.specs.steps.Marking.{way_of, root_of, none_is_later, climbs_to, climbs, descends_by, descends, is_held, are_held, stays}
use Rattle.ls_env.proofs.PartLemmas.{Climbs, Descends, Parted, stays_in_part}
use Rattle.ls_env.proofs.ReachLemmas.{comes_back_reaches}

-- ---- tests of lists

all_in : (test : ℕ → Bool) (bs : List ℕ) → list_all test bs ≡ true → (b : ℕ) → In b bs → test b ≡ true
all_in test [] h b i = absurd i
all_in test (x ∷ xs) h b (inl e) = subst (λ (y : ℕ). test y ≡ true) e (and_parts (test x) (list_all test xs) h).0
all_in test (x ∷ xs) h b (inr i) = all_in test xs (and_parts (test x) (list_all test xs) h).1 b i

all_below : (test : ℕ → Bool) (a n : ℕ) → list_all test (range_with_len a n) ≡ true → (k : ℕ) → a ≤ k → k < a + n
    → test k ≡ true
all_below test a zero h k low high = absurd (omega arith)
all_below test a (suc n) h k low high =
    let both = and_parts (test a) (list_all test (range_with_len (a + 1) n)) h in
    elim (same_or_more a k low) [
      | inl e ↦ subst (λ (y : ℕ). test y ≡ true) e both.0
      | inr more ↦ all_below test (a + 1) n both.1 k more (omega arith)
    ]
  where
    same_or_more : (a k : ℕ) → a ≤ k → (a ≡ k) ⊎ (a + 1 ≤ k)
    same_or_more zero zero h = inl refl
    same_or_more zero (suc k) h = inr (omega arith)
    same_or_more (suc a) zero h = absurd (omega arith)
    same_or_more (suc a) (suc k) h = elim (same_or_more a k (omega arith)) [ inl e ↦ inl (ap suc e) | inr m ↦ inr (omega arith) ]

range_more : (a n : ℕ) → range_with_len a (suc n) ≡ range_with_len a n ++ (a + n) ∷ []
range_more a zero = let e : a ≡ a + 0 = omega arith in ap (λ (k : ℕ). k ∷ []) e
range_more a (suc n) =
    let e : a + 1 + n ≡ a + suc n = omega arith in
    ap (λ ks. a ∷ ks) (range_more (a + 1) n ∙ ap (λ (k : ℕ). range_with_len (a + 1) n ++ k ∷ []) e)

-- one more template passes
pub passes_next : (test : ℕ → Bool) (n : ℕ) → list_all test (range_with_len 0 n) ≡ true → test n ≡ true
    → list_all test (range_with_len 0 (n + 1)) ≡ true
passes_next test n so_far here =
    let one_more : n + 1 ≡ suc n = omega arith in
    let same : 0 + n ≡ n = omega arith in
    ap (λ (k : ℕ). list_all test (range_with_len 0 k)) one_more
    ∙ ap (list_all test) (range_more 0 n ∙ ap (λ (k : ℕ). range_with_len 0 n ++ k ∷ []) same)
    ∙ list_all-append test (range_with_len 0 n) (n ∷ [])
    ∙ ap (λ (b : Bool). b && (test n && true)) so_far
    ∙ ap (λ (b : Bool). b && true) here

-- where a template does not pass, not all do
pub one_fails : (test : ℕ → Bool) (n at : ℕ) → at < n → test at ≡ false → false ≡ list_all test (range_with_len 0 n)
one_fails test n at lt here = by_answer (list_all test (range_with_len 0 n)) refl
  where
    by_answer : (b : Bool) → list_all test (range_with_len 0 n) ≡ b → false ≡ b
    by_answer false is = refl
    by_answer true is = let passes = all_below test 0 n is at (omega arith) (omega arith) in cc

first_or_rest : (test : ℕ → Bool) (x : ℕ) (xs : List ℕ) (t : Bool) → test x ≡ t → list_any test (x ∷ xs) ≡ true
    → (test x ≡ true) ⊎ (list_any test xs ≡ true)
first_or_rest test x xs true e h = inl e
first_or_rest test x xs false e h = inr (sym (ap (λ (t : Bool). t || list_any test xs) e) ∙ h)

any_in : (test : ℕ → Bool) (bs : List ℕ) → list_any test bs ≡ true → (b : ℕ) × (In b bs × (test b ≡ true))
any_in test [] h = cc
any_in test (x ∷ xs) h = elim (first_or_rest test x xs (test x) refl h) [
  | inl e ↦ (x, (inl refl, e))
  | inr more ↦ let rest = any_in test xs more in (rest.0, (inr rest.1.0, rest.1.1))
]

any_from : (test : ℕ → Bool) (bs : List ℕ) (b : ℕ) → In b bs → test b ≡ true → list_any test bs ≡ true
any_from test [] b i h = absurd i
any_from test (x ∷ xs) b (inl e) h = ap (λ (t : Bool). t || list_any test xs) (subst (λ (y : ℕ). test y ≡ true) (sym e) h)
any_from test (x ∷ xs) b (inr i) h = or_right (test x) (list_any test xs) (any_from test xs b i h)
  where
    or_right : (a b : Bool) → b ≡ true → (a || b) ≡ true
    or_right true b h = refl
    or_right false b h = h

in_at : (bs : List ℕ) (at b : ℕ) → slice_get bs at ≡ Some b → In b bs
in_at [] at b h = cc
in_at (x ∷ xs) zero b h = inl cc
in_at (x ∷ xs) (suc at) b h = inr (in_at xs at b h)

same_number : (a b : ℕ) → (a == b) ≡ true → a ≡ b
same_number a b h = grind (arith, nat_tests)

equal_number : (a b : ℕ) → a ≡ b → (a == b) ≡ true
equal_number a b h = grind (arith, nat_tests)

-- ---- the test of one template

abbrev part : Parts → ℕ → ℕ
part p a = (way_of p a).part

abbrev far : Parts → ℕ → ℕ
far p a = (way_of p a).far

abbrev near : Parts → ℕ → ℕ
near p a = (way_of p a).near

abbrev or_zero : Option ℕ → ℕ
or_zero None = 0
or_zero (Some n) = n

-- where the mention at the place `up` leads
abbrev up : List (List ℕ) → Parts → ℕ → ℕ
up graph p a = or_zero (slice_get (body graph a) (way_of p a).up)

abbrev down : Parts → ℕ → ℕ
down p a = (way_of p a).down

module _ (graph : List (List ℕ)) (p : Parts) where
  climb : (a : ℕ) (to : Option ℕ) → slice_get (body graph a) (way_of p a).up ≡ to → climbs_to p a to ≡ true
      → Climbs graph (part p) (far p) a (or_zero to)
  climb a None is h = cc
  climb a (Some b) is h =
      let both = and_parts (part p b == part p a) (nat_lt (far p b) (far p a)) h in
      record {
        edge = in_at (body graph a) (way_of p a).up b is;
        same = same_number (part p b) (part p a) both.0;
        nearer = grind (arith, nat_tests, both.1);
      }

  within : (a b : ℕ) → In b (body graph a) → a < length graph
  within a b i = in_graph graph a b i
    where
      in_graph : (g : List (List ℕ)) (a b : ℕ) → In b (body g a) → a < length g
      in_graph [] a b i = absurd i
      in_graph (x ∷ g) zero b i = omega arith
      in_graph (x ∷ g) (suc a) b i = let h = in_graph g a b i in omega arith

  descend : (a b : ℕ) (to : Option ℕ) → slice_get (body graph b) (way_of p a).down_at ≡ to
      → descends_by p a b to ≡ true → Descends graph (part p) (near p) a b
  descend a b None is h = cc
  descend a b (Some x) is h =
      let first = and_parts (x == a) ((part p b == part p a) && nat_lt (near p b) (near p a)) h in
      let both = and_parts (part p b == part p a) (nat_lt (near p b) (near p a)) first.1 in
      let edge = subst (λ (y : ℕ). In y (body graph b)) (same_number x a first.0) (in_at (body graph b) (way_of p a).down_at x is) in
      record {
        edge = edge;
        same = same_number (part p b) (part p a) both.0;
        nearer = grind (arith, nat_tests, both.1);
        within = within b a edge;
      }

  -- the root, or on the way to it and from it
  stands : (a : ℕ) (b c d : Bool) → (b || (c && d)) ≡ true → (b ≡ true) ⊎ ((c ≡ true) × (d ≡ true))
  stands a true c d h = inl refl
  stands a false c d h = inr (and_parts c d h)

  abbrev IsHeld : ℕ → Type 0
  IsHeld a = (a ≡ root_of p (part p a)) ⊎ (Climbs graph (part p) (far p) a (up graph p a) × Descends graph (part p) (near p) a (down p a))

  held : (a : ℕ) → is_held graph p a ≡ true → IsHeld a
  held a h =
      let both = and_parts (none_is_later p (part p a) (body graph a)) ((root_of p (part p a) == a) || (climbs graph p a && descends graph p a)) h in
      elim (stands a (root_of p (part p a) == a) (climbs graph p a) (descends graph p a) both.1) [
        | inl root ↦ inl (sym (same_number (root_of p (part p a)) a root))
        | inr ways ↦ inr (
          climb a (slice_get (body graph a) (way_of p a).up) refl ways.0,
          descend a (down p a) (slice_get (body graph (down p a)) (way_of p a).down_at) refl ways.1,
        )
      ]

  later : (a : ℕ) → is_held graph p a ≡ true → (b : ℕ) → In b (body graph a) → part p b ≤ part p a
  later a h b i =
      let both = and_parts (none_is_later p (part p a) (body graph a)) ((root_of p (part p a) == a) || (climbs graph p a && descends graph p a)) h in
      let test : nat_le (part p b) (part p a) ≡ true = all_in (λ x. nat_le (part p x) (part p a)) (body graph a) both.0 b i in
      grind (arith, nat_tests, test)

  -- parts that pass the test are right
  parted : are_held graph p ≡ true → Parted graph (part p) (root_of p) (up graph p) (down p) (far p) (near p)
  parted h =
      let each : (a : ℕ) → a < length graph → is_held graph p a ≡ true = λ a lt. all_below (is_held graph p) 0 (length graph) h a (omega arith) (omega arith) in
      record {
        falls = λ a b i. later a (each a (within a b i)) b i;
        rises = λ a lt. elim (held a (each a lt)) [ inl e ↦ inl e | inr ways ↦ inr ways.0 ];
        leads = λ a lt. elim (held a (each a lt)) [ inl e ↦ inl e | inr ways ↦ inr ways.1 ];
      }

  stays_reaches : InRange graph → are_held graph p ≡ true → (a : ℕ) → a < length graph
      → IsTrue (stays graph p a) ↔ Reaches graph a a
  stays_reaches range h a lt =
      let way = stays_in_part graph (part p) (root_of p) (up graph p) (down p) (far p) (near p) range (parted h) a lt in (
        (λ is. (let x = any_in (λ b. part p b == part p a) (body graph a) is in way.1 (x.0, (x.1.0, same_number (part p x.0) (part p a) x.1.1)))),
        (λ r. (let x = way.0 r in any_from (λ b. part p b == part p a) (body graph a) x.0 x.1.0 (equal_number (part p x.0) (part p a) x.1.1))),
      )

  -- a template comes back to itself where it mentions one of its own part
  pub back_is_stays : InRange graph → are_held graph p ≡ true → (a : ℕ) → a < length graph
      → stays graph p a ≡ comes_back graph a
  back_is_stays range h a lt =
      one_answer (stays graph p a) (comes_back graph a) (stays_reaches range h a lt) (comes_back_reaches graph a range)

-- ---- marks, one after the other

pub marks_next : (graph : List (List ℕ)) (n : ℕ) (old new : List Bool) (b : Bool) → b ≡ comes_back graph n
    → new ≡ old ++ b ∷ [] → old ≡ map (comes_back graph) (range_with_len 0 n)
    → new ≡ map (comes_back graph) (range_with_len 0 (n + 1))
marks_next graph n old new b is pushed so_far =
    let same : 0 + n ≡ n = omega arith in
    pushed
    ∙ ap (λ (ms : List Bool). ms ++ b ∷ []) so_far
    ∙ ap (λ (x : Bool). map (comes_back graph) (range_with_len 0 n) ++ x ∷ []) is
    ∙ sym (map-range_with_len_more (comes_back graph) 0 n n same)
