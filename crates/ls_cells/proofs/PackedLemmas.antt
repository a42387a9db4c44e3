-- Words that hold a list of truth values.
use Rattle.std.proofs.Common.{ℕ, ◌≡◌, ◌∙◌, ◌+◌, ◌*◌, ◌/◌, ◌%◌, ◌<◌, ◌≤◌, ◌^◌, Bool, true, false, not, ◌==◌, ◌&&◌, nat_lt, List, [], length, get_or, drop, map, arith, ap, sym, subst, refl, ◌⊎◌, inl, inr, lit<}
use Rattle.std.specs.Int.{bit_at, div_ceil}
use Rattle.std.specs.Prelude.{bit_and, nat_le}
use Rattle.std.specs.List.{refill}
use Rattle.std.proofs.Math.Seq.{take-length}
use Rattle.std.proofs.lemmas.Bool.{cases_lt}
use Rattle.std.proofs.lemmas.Bool.Decides.{nat_tests}
use Rattle.std.proofs.lemmas.List.{get_or_past, take-append-le}
use Rattle.std.proofs.lemmas.Nat.Bits.{bit_at-zero, shr_and_one}
use Rattle.ls_cells.specs.Signs.{tabulate, at, is_set, Packed}
use Rattle.ls_cells.specs.steps.Words.{IsIntervalWord, Negated, IsClear, IsSetIn, IsWithin, IsOutside}
use Rattle.ls_cells.proofs.BitLemmas.{outside_test}
use Rattle.ls_cells.proofs.TabulateLemmas.{length-tabulate, at-tabulate, tabulate_same, map_tabulate, is_below, not_below}

-- a slice that is written back whole
pub refilled : (xs ws : List ℕ) → length ws ≡ length xs → refill (length xs) xs ws ≡ ws
refilled xs ws e = rw (sym e) (take-append-le (length ws) ws (drop (length ws) xs) (omega arith) ∙ take-length ws)

-- no words hold no values
pub packed_none : Packed 0 []
unfolding is_set
packed_none = record { count = refl; each = λ k. omega arith; rest = λ i l. ap (λ k. k == 1) (bit_at-zero (i % 64)) }

-- the fields of a list of truth values: words that hold it and nothing more
pub record Shows (values : List Bool) (n : ℕ) (ws : List ℕ) : Type 0 where
  pub packed : Packed n ws
  pub shown : tabulate n (is_set ws) ≡ values

pub shows : {n : ℕ} {ws : List ℕ} {values : List Bool} → Packed n ws → tabulate n (is_set ws) ≡ values → Shows values n ws
shows p e = record { packed = p; shown = e }

-- the list is as long as its field says
pub shown_length : {n : ℕ} {ws : List ℕ} {values : List Bool} → Shows values n ws → length values ≡ n
shown_length {n} {ws} s = sym (ap length s.shown) ∙ length-tabulate n (is_set ws)

-- the word of a place is there
pub has_word : {n : ℕ} {ws : List ℕ} {values : List Bool} → Shows values n ws → (i : ℕ) → i < length values → i / 64 < length ws
has_word s i l = omega (arith, shown_length s, s.packed.count)

-- the value at any place
pub shown_at : {n : ℕ} {ws : List ℕ} {values : List Bool} → Shows values n ws → (i : ℕ) → at values i ≡ is_set ws i
shown_at {n} {ws} {values} s i = elim (cases_lt i n) [
  | inl l ↦ ap (λ bs. at bs i) (sym s.shown) ∙ at-tabulate n (is_set ws) i l
  | inr m ↦ get_or_past values i false (omega (arith, shown_length s)) ∙ sym (s.packed.rest i m)
]

-- the value at a place, as the code reads it
pub get_is : {n : ℕ} {ws : List ℕ} {values : List Bool} → Shows values n ws → (i : ℕ) → (bit_and (get_or ws (i / 64) 0 / 2 ^ (i % 64)) 1 == 1) ≡ at values i
unfolding is_set
get_is {n} {ws} {values} s i = bit_test ∙ sym (shown_at s i)
  where
    bit_test : (bit_and (get_or ws (i / 64) 0 / 2 ^ (i % 64)) 1 == 1) ≡ is_set ws i
    bit_test = rw shr_and_one refl

-- the value of a bit of a word
pub is_set_in : (ws : List ℕ) (k j : ℕ) → j < 64 → is_set ws (k * 64 + j) ≡ (bit_at (get_or ws k 0) j == 1)
unfolding is_set
is_set_in ws k j l =
    let q : (k * 64 + j) / 64 ≡ k = omega arith in
    let r : (k * 64 + j) % 64 ≡ j = omega arith in
    rw (q, r) refl

-- a word that is 0 has no true value
pub clear_word : (ws : List ℕ) (i : ℕ) → get_or ws (i / 64) 0 ≡ 0 → is_set ws i ≡ false
unfolding is_set
clear_word ws i e = ap (λ w. bit_at w (i % 64) == 1) e ∙ ap (λ k. k == 1) (bit_at-zero (i % 64))

-- words whose bits are the values of a test that is false from n on
pub record Holding (n : ℕ) (f : ℕ → Bool) (ws : List ℕ) : Type 0 where
  pub count : length ws ≡ (n + 63) / 64
  pub each : (k : ℕ) → k < length ws → get_or ws k 0 < 2 ^ 64
  pub bits : (k : ℕ) → k < length ws → (j : ℕ) → j < 64 → (bit_at (get_or ws k 0) j == 1) ≡ f (k * 64 + j)
  pub past : (i : ℕ) → n ≤ i → f i ≡ false

-- they hold the list of the test's values
pub holding_shows : (n : ℕ) (f : ℕ → Bool) (ws : List ℕ) → Holding n f ws → Shows (tabulate n f) n ws
holding_shows n f ws h = record {
  packed = record {
    count = h.count;
    each = λ k. elim (cases_lt k (length ws)) [
      | inl l ↦ h.each k l
      | inr m ↦ rw (get_or_past ws k 0 m) (lit< tt)
    ];
    rest = λ i l. elim (cases_lt (i / 64) (length ws)) [
      | inl m ↦ bit i m ∙ h.past i l
      | inr m ↦ clear_word ws i (get_or_past ws (i / 64) 0 m)
    ];
  };
  shown = tabulate_same n (is_set ws) f (λ i l. bit i (omega (arith, h.count)));
}
  where
    bit : (i : ℕ) → i / 64 < length ws → is_set ws i ≡ f i
    bit i l =
        let e : i / 64 * 64 + i % 64 ≡ i = omega arith in
        ap (is_set ws) (sym e) ∙ is_set_in ws (i / 64) (i % 64) (omega arith) ∙ h.bits (i / 64) l (i % 64) (omega arith) ∙ ap f e

-- the words of an interval
pub interval_shows : (n from to : ℕ) (ws : List ℕ) → to ≤ n → length ws ≡ div_ceil n 64 → ((k : ℕ) → get_or ws k 0 < 2 ^ 64)
    → ((k : ℕ) → k < div_ceil n 64 → IsIntervalWord from to k (get_or ws k 0)) → Shows (tabulate n (λ i. nat_le from i && nat_lt i to)) n ws
interval_shows n from to ws l e small bits = holding_shows n (λ i. nat_le from i && nat_lt i to) ws (record {
  count = omega arith;
  each = λ k m. small k;
  bits = λ k m. bits k (omega arith);
  past = λ i m. grind (arith, nat_tests);
})

-- the negated words
pub negated_shows : {n : ℕ} {ws : List ℕ} {values : List Bool} (before out : List ℕ) → Shows values n ws → before ≡ ws → Negated n before out
    → Shows (map not values) n (refill (length ws) ws out)
negated_shows {n} {ws} {values} before out s e b =
    let h = holding_shows n (λ i. nat_lt i n && not (is_set ws i)) out holding in
    rw (refilled ws out t.as_long) (shows h.packed (h.shown ∙ same ∙ ap (map not) s.shown))
  where
    t : Negated n ws out
    t = subst (λ us. Negated n us out) e b

    holding : Holding n (λ i. nat_lt i n && not (is_set ws i)) out
    holding = record {
      count = t.as_long ∙ s.packed.count;
      each = λ k l. t.small k (omega (arith, t.as_long));
      bits = λ k l j m. t.bits k (omega (arith, t.as_long)) j m ∙ ap (λ x. nat_lt (k * 64 + j) n && not x) (sym (is_set_in ws k j m));
      past = λ i l. ap (λ x. x && not (is_set ws i)) (not_below i n l);
    }

    same : tabulate n (λ i. nat_lt i n && not (is_set ws i)) ≡ map not (tabulate n (is_set ws))
    same = tabulate_same n _ (λ i. not (is_set ws i)) (λ i l. ap (λ x. x && not (is_set ws i)) (is_below i n l)) ∙ sym (map_tabulate n (is_set ws))

-- a set bit is a true value
pub true_at : {n : ℕ} {ws : List ℕ} {values : List Bool} (before : List ℕ) (k j : ℕ) → Shows values n ws → before ≡ ws → IsSetIn before (k, j)
    → (k * 64 + j < length values) × (at values (k * 64 + j) ≡ true)
true_at {n} {ws} {values} before k j s e b =
    let t : IsSetIn ws (k, j) = subst (λ us. IsSetIn us (k, j)) e b in
    let set : at values (k * 64 + j) ≡ true = shown_at s (k * 64 + j) ∙ is_set_in ws k j t.1 ∙ t.2 in
    elim (cases_lt (k * 64 + j) (length values)) [
      | inl l ↦ (l, set)
      | inr m ↦ absurd (let clear = get_or_past values (k * 64 + j) false m in cc)
    ]

-- where all words are 0 no value is true
pub none_true : {n : ℕ} {ws : List ℕ} {values : List Bool} (before : List ℕ) → Shows values n ws → before ≡ ws → IsClear before → (i : ℕ) → at values i ≡ false
none_true {n} {ws} {values} before s e c i = shown_at s i ∙ clear_word ws i (elim (cases_lt (i / 64) (length ws)) [
  | inl l ↦ subst IsClear e c (i / 64) l
  | inr m ↦ get_or_past ws (i / 64) 0 m
])

-- where no bit is outside the other words, each true value is true in the other list
pub within_is : {n m : ℕ} {ws us : List ℕ} {xs ys : List Bool} (a b : List ℕ) → Shows xs n ws → Shows ys m us → a ≡ ws → b ≡ us → IsWithin a b → (i : ℕ) → at xs i ≡ true → at ys i ≡ true
within_is {n} {m} {ws} {us} {xs} {ys} a b s t d e h i set =
    shown_at t i ∙ by_place (cases_lt (i / 64) (length ws))
  where
    within : IsWithin ws us
    within = subst (IsWithin ws) e (subst (λ vs. IsWithin vs b) d h)

    is_set_i : is_set ws i ≡ true
    is_set_i = sym (shown_at s i) ∙ set

    both : (x y : Bool) → (x && not y) ≡ false → x ≡ true → y ≡ true
    both true true q r = refl
    both true false q r = absurd cc
    both false y q r = absurd cc

    bit : (vs : List ℕ) → is_set vs i ≡ (bit_at (get_or vs (i / 64) 0) (i % 64) == 1)
    bit vs =
        let at_word : i / 64 * 64 + i % 64 ≡ i = omega arith in
        ap (is_set vs) (sym at_word) ∙ is_set_in vs (i / 64) (i % 64) (omega arith)

    by_place : (i / 64 < length ws) ⊎ (length ws ≤ i / 64) → is_set us i ≡ true
    by_place (inl l) =
        bit us ∙ both (bit_at (get_or ws (i / 64) 0) (i % 64) == 1) _ (
        sym (outside_test (get_or ws (i / 64) 0) (get_or us (i / 64) 0) (i % 64) (t.packed.each (i / 64)) (omega arith))
        ∙ ap (λ w. bit_at w (i % 64) == 1) (within (i / 64) l) ∙ ap (λ k. k == 1) (bit_at-zero (i % 64))) (sym (bit ws) ∙ is_set_i)
    by_place (inr g) = absurd (let clear = clear_word ws i (get_or_past ws (i / 64) 0 g) in let f = sym clear ∙ is_set_i in cc)

-- a bit outside the other words is a value that is true in this list alone
pub outside_at : {n m : ℕ} {ws us : List ℕ} {xs ys : List Bool} (a b : List ℕ) (k j : ℕ) → Shows xs n ws → Shows ys m us → a ≡ ws → b ≡ us → IsOutside a b (k, j)
    → (k * 64 + j < length xs) × (at xs (k * 64 + j) ≡ true) × (at ys (k * 64 + j) ≡ false)
outside_at {n} {m} {ws} {us} a b k j s t d e h =
    let here = true_at a k j s d h.0 in
    let other : IsOutside a us (k, j) = subst (λ vs. IsOutside a vs (k, j)) e h in
    (here.0, here.1, shown_at t (k * 64 + j) ∙ is_set_in us k j h.0.1 ∙ other.1)

-- where a word is 0, or there is none, no value of its block is true
pub clear_block : {n : ℕ} {ws : List ℕ} {values : List Bool} (block : ℕ) → Shows values n ws → get_or ws block 0 ≡ 0 → (i : ℕ) → i / 64 ≡ block → at values i ≡ false
clear_block {n} {ws} block s e i f = shown_at s i ∙ clear_word ws i (ap (λ k. get_or ws k 0) f ∙ e)
