-- A value added, and a value negated.
use Rattle.std.proofs.Common.{ℕ, zero, suc, ◌≡◌, ◌≢◌, ◌∙◌, ◌+◌, ◌*◌, ◌-◌, ◌/◌, ◌%◌, ◌<◌, ◌^◌, Bool, true, false, not, cond, ◌==◌, List, [], ◌∷◌, ◌++◌, length, get_or, set, arith, ap, sym, refl, ◌⊎◌, inl, inr, lit<}
use Rattle.std.specs.Int.{bit_at}
use Rattle.std.specs.Prelude.{bit_xor}
use Rattle.std.specs.List.{refill}
use Rattle.std.proofs.Math.Pow.{pow-lt}
use Rattle.std.proofs.lemmas.Bool.{cases_eq, cases_lt}
use Rattle.std.proofs.lemmas.Nat.{xor_lt}
use Rattle.std.proofs.lemmas.Nat.Bits.{bit_at_xor, bit_at-zero, bit_at-pow_same, bit_at-pow_other, bit_at_above}
use Rattle.std.proofs.lemmas.List.{get_or_past, get_or-set_same, get_or-set_other, length-set, length_push, get_or_append_left, get_or-append_right}
use Rattle.ls_cells.specs.Signs.{tabulate, at, is_set, Packed}
use Rattle.ls_cells.specs.steps.Words.{Pushed, flipped}
use Rattle.ls_cells.proofs.BitLemmas.{first_bit, zero_or_one}
use Rattle.ls_cells.proofs.TabulateLemmas.{is_tabulate, tabulate_same, tabulate_more}
use Rattle.ls_cells.proofs.PackedLemmas.{Shows, shows, shown_at, shown_length, has_word, refilled}

bit_fits : (i : ℕ) → 2 ^ (i % 64) < 2 ^ 64
bit_fits i = let l : i % 64 < 64 = omega arith in pow-lt l

-- the bit of a place is negated
pub flipped_same : (ws : List ℕ) (i : ℕ) → i / 64 < length ws → is_set (flipped ws i) i ≡ not (is_set ws i)
unfolding is_set
flipped_same ws i l =
    ap (λ w. bit_at w (i % 64) == 1) (get_or-set_same ws (i / 64) _ 0 l)
    ∙ ap (λ n. n == 1) (bit_at_xor (get_or ws (i / 64) 0) (2 ^ (i % 64)) (i % 64))
    ∙ ap (λ n. (bit_at (get_or ws (i / 64) 0) (i % 64) + n) % 2 == 1) (bit_at-pow_same (i % 64))
    ∙ negated _ (zero_or_one (get_or ws (i / 64) 0) (i % 64))
  where
    negated : (x : ℕ) → (x ≡ 0) ⊎ (x ≡ 1) → ((x + 1) % 2 == 1) ≡ not (x == 1)
    negated x (inl e) = rw e refl
    negated x (inr e) = rw e refl

-- no other bit is changed
pub flipped_other : (ws : List ℕ) (i j : ℕ) → i / 64 < length ws → j ≢ i → is_set (flipped ws i) j ≡ is_set ws j
unfolding is_set
flipped_other ws i j l n = by_word (cases_eq (j / 64) (i / 64))
  where
    unchanged : (x : ℕ) → (x ≡ 0) ⊎ (x ≡ 1) → ((x + 0) % 2 == 1) ≡ (x == 1)
    unchanged x (inl e) = rw e refl
    unchanged x (inr e) = rw e refl

    by_word : (j / 64 ≡ i / 64) ⊎ (j / 64 ≢ i / 64) → is_set (flipped ws i) j ≡ is_set ws j
    by_word (inl e) =
        ap (λ w. bit_at w (j % 64) == 1) (ap (λ k. get_or (flipped ws i) k 0) e ∙ get_or-set_same ws (i / 64) _ 0 l)
        ∙ ap (λ n. n == 1) (bit_at_xor (get_or ws (i / 64) 0) (2 ^ (i % 64)) (j % 64))
        ∙ ap (λ n. (bit_at (get_or ws (i / 64) 0) (j % 64) + n) % 2 == 1) (bit_at-pow_other (i % 64) (j % 64) (λ m. n (omega arith)))
        ∙ unchanged _ (zero_or_one (get_or ws (i / 64) 0) (j % 64))
        ∙ ap (λ k. bit_at (get_or ws k 0) (j % 64) == 1) (sym e)
    by_word (inr m) = ap (λ w. bit_at w (j % 64) == 1) (get_or-set_other ws (i / 64) (j / 64) _ 0 m)

-- and each word stays a word
flipped_each : (ws : List ℕ) (i k : ℕ) → i / 64 < length ws → ((k : ℕ) → get_or ws k 0 < 2 ^ 64) → get_or (flipped ws i) k 0 < 2 ^ 64
flipped_each ws i k l each = elim (cases_eq k (i / 64)) [
  | inl e ↦ rw (e, get_or-set_same ws (i / 64) (bit_xor (get_or ws (i / 64) 0) (2 ^ (i % 64))) 0 l) (xor_lt 64 (get_or ws (i / 64) 0) (2 ^ (i % 64)) (each (i / 64)) (bit_fits i))
  | inr n ↦ rw (get_or-set_other ws (i / 64) k (bit_xor (get_or ws (i / 64) 0) (2 ^ (i % 64))) 0 n) (each k)
]

-- what the code writes for a negated bit
pub flipped_back : (xs ws : List ℕ) (i : ℕ) → ws ≡ xs → refill (length xs) xs (set ws (i / 64) (bit_xor (get_or ws (i / 64) 0) (1 * 2 ^ (i % 64) % 2 ^ 64))) ≡ flipped xs i
flipped_back xs ws i e =
    let shifted : 1 * 2 ^ (i % 64) % 2 ^ 64 ≡ 2 ^ (i % 64) = let l = bit_fits i in omega arith in
    rw (e, shifted) (refilled xs (flipped xs i) (length-set xs (i / 64) (bit_xor (get_or xs (i / 64) 0) (2 ^ (i % 64)))))

-- a list with a value negated
pub flip_shows : {n : ℕ} {ws : List ℕ} {values : List Bool} (i : ℕ) → Shows values n ws → i < length values → Shows (set values i (not (at values i))) n (flipped ws i)
flip_shows {n} {ws} {values} i s m = shows packed (sym (is_tabulate (set values i (not (at values i))) n (is_set (flipped ws i)) (length-set values i _ ∙ shown_length s) (λ j r.
    elim (cases_eq j i) [
      | inl e ↦ rw e (get_or-set_same values i _ false m ∙ ap not (shown_at s i) ∙ sym (flipped_same ws i l))
      | inr ne ↦ get_or-set_other values i j _ false ne ∙ shown_at s j ∙ sym (flipped_other ws i j l ne)
    ])))
  where
    l : i / 64 < length ws
    l = has_word s i m

    packed : Packed n (flipped ws i)
    packed = record {
      count = length-set ws (i / 64) _ ∙ s.packed.count;
      each = λ k. flipped_each ws i k l s.packed.each;
      rest = λ j r. flipped_other ws i j l (λ e. omega (arith, shown_length s)) ∙ s.packed.rest j r;
    }

-- a value as the first of a new word
pub pushed_word : (n : ℕ) (b : Bool) (ws : List ℕ) → Packed n ws → n % 64 ≡ 0 → Pushed n b ws (ws ++ cond b 1 0 ∷ [])
unfolding is_set
pushed_word n b ws p z =
    let len : length ws * 64 ≡ n = omega (arith, p.count) in
    let none : length ws - length ws ≡ 0 = omega arith in record {
      packed = record {
        count = length_push ws _ ∙ omega (arith, p.count);
        each = λ k. elim (cases_lt k (length ws)) [
          | inl l ↦ rw (get_or_append_left ws (cond b 1 0 ∷ []) 0 k l) (p.each k)
          | inr m ↦ rw (get_or-append_right ws (cond b 1 0 ∷ []) (length ws) k 0 refl m) (small (k - length ws) b)
        ];
        rest = λ i m. elim (cases_eq (i / 64) (length ws)) [
          | inl e ↦ rw (e, get_or-append_right ws (cond b 1 0 ∷ []) (length ws) (length ws) 0 refl (omega arith), none) (above_bit b (i % 64) (omega arith))
          | inr ne ↦ rw (get_or_past (ws ++ cond b 1 0 ∷ []) (i / 64) 0 (omega (arith, length_push ws (cond b 1 0)))) (ap (λ k. k == 1) (bit_at-zero (i % 64)))
        ];
      };
      kept = λ i l. ap (λ w. bit_at w (i % 64) == 1) (get_or_append_left ws (cond b 1 0 ∷ []) 0 (i / 64) (omega arith));
      last =
          let e : n / 64 ≡ length ws = omega arith in
          rw (e, z, get_or-append_right ws (cond b 1 0 ∷ []) (length ws) (length ws) 0 refl (omega arith), none) (first_bit b);
    }
  where
    small : (k : ℕ) (b : Bool) → get_or (cond b 1 0 ∷ []) k 0 < 2 ^ 64
    small zero true = lit< tt
    small zero false = lit< tt
    small (suc k) true = lit< tt
    small (suc k) false = lit< tt

    above_bit : (b : Bool) (i : ℕ) → 0 < i → (bit_at (cond b 1 0) i == 1) ≡ false
    above_bit true i l = ap (λ k. k == 1) (bit_at_above 1 1 i (lit< tt) (omega arith))
    above_bit false i l = ap (λ k. k == 1) (bit_at-zero i)

-- a false value in the last word
pub pushed_false : (n : ℕ) (ws : List ℕ) → Packed n ws → n % 64 ≢ 0 → Pushed n false ws ws
pushed_false n ws p z = record {
  packed = record { count = p.count ∙ omega arith; each = p.each; rest = λ i l. p.rest i (omega arith) };
  kept = λ i l. refl;
  last = p.rest n (omega arith);
}

-- a true value in the last word
pub pushed_true : (n : ℕ) (ws : List ℕ) → Packed n ws → n % 64 ≢ 0 → Pushed n true ws (flipped ws n)
pushed_true n ws p z =
    let l : n / 64 < length ws = omega (arith, p.count) in record {
      packed = record {
        count = length-set ws (n / 64) _ ∙ p.count ∙ omega arith;
        each = λ k. flipped_each ws n k l p.each;
        rest = λ i m. flipped_other ws n i l (λ e. omega arith) ∙ p.rest i (omega arith);
      };
      kept = λ i m. flipped_other ws n i l (λ e. omega arith);
      last = flipped_same ws n l ∙ ap not (p.rest n (omega arith));
    }

-- and so the list has one value more
pub push_is : (n : ℕ) (b : Bool) (old new : List ℕ) → Pushed n b old new → tabulate (n + 1) (is_set new) ≡ tabulate n (is_set old) ++ b ∷ []
push_is n b old new p =
    tabulate_more n (is_set new) ∙ ap (λ xs. xs ++ is_set new n ∷ []) (tabulate_same n (is_set new) (is_set old) p.kept)
    ∙ ap (λ x. tabulate n (is_set old) ++ x ∷ []) p.last
