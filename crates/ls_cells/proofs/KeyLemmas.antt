-- Lists of truth values as keys: equal lists have equal words.
use Rattle.std.proofs.Common.{ℕ, zero, suc, ◌≡◌, ◌∙◌, ◌+◌, ◌*◌, ◌-◌, ◌/◌, ◌<◌, ◌≤◌, ◌^◌, Bool, true, false, cond, ◌==◌, List, length, map, get_or, arith, ap, sym, inl, inr, lit<, pow-suc, nat_eq}
use Rattle.std.specs.Int.{bit_at}
use Rattle.std.specs.Bool.{beq, one_answer}
use Rattle.std.specs.Cmp.{booleans_Decides}
use Rattle.std.specs.Cmp.Lexicographic.{pointwise, pointwise_decides, bytes_decides, unequal}
use Rattle.std.specs.List.{range_with_len}
use Rattle.std.proofs.lemmas.Bool.{cases_lt, ne_eqb}
use Rattle.std.proofs.lemmas.Bool.Decides.{nat_tests}
use Rattle.std.proofs.lemmas.List.{same_lists, get_or_default}
use Rattle.std.proofs.lemmas.List.FromFn.{length-map-range_with_len, get_or-map-range_with_len}
use Rattle.std.proofs.lemmas.Nat.Bits.{bit_at-lt, bit_at_cat_low, bit_at_cat_high, same_from_bits_below}
use Rattle.ls_cells.specs.Signs.{tabulate, at, is_set, number, words_of}
use Rattle.ls_cells.proofs.BitLemmas.{first_bit}
use Rattle.ls_cells.proofs.PackedLemmas.{Shows, shown_at, shown_length, is_set_in}

-- a number that is made of n bits is below 2^n, and has these bits
number-lt : (n : ℕ) (f : ℕ → Bool) → number n f < 2 ^ n
unfolding number
number-lt zero f = lit< tt
number-lt (suc n) f = let h = number-lt n f in let b = at_most (f n) (2 ^ n) in rw (pow-suc 2 n) (omega arith)
  where
    at_most : (b : Bool) (m : ℕ) → cond b 1 0 * m ≤ m
    at_most true m = omega arith
    at_most false m = omega arith

number-at : (n : ℕ) (f : ℕ → Bool) (i : ℕ) → i < n → (bit_at (number n f) i == 1) ≡ f i
unfolding number
number-at zero f i l = absurd (omega arith)
number-at (suc n) f i l = elim (cases_lt i n) [
  | inl m ↦ ap (λ k. k == 1) (bit_at_cat_low (cond (f n) 1 0) n (number n f) i m) ∙ number-at n f i m
  | inr m ↦
      let e : i ≡ n = omega arith in
      let none : n - n ≡ 0 = omega arith in
      rw (e, bit_at_cat_high (cond (f n) 1 0) n (number n f) n (number-lt n f) (omega arith), none) (first_bit (f n))
]

-- words are those of the list that they hold
pub words_are : {n : ℕ} {ws : List ℕ} {values : List Bool} → Shows values n ws → ws ≡ words_of values
unfolding words_of
words_are {n} {ws} {values} s = sym (same_lists (map word (range_with_len 0 count)) ws as_long (λ k d l.
    get_or-map-range_with_len word 0 count k k d (omega (arith, length-map-range_with_len word 0 count)) (omega arith)
    ∙ same_word k ∙ get_or_default ws k 0 d (omega (arith, as_long))))
  where
    word : ℕ → ℕ
    word k = number 64 (λ j. at values (k * 64 + j))

    count : ℕ
    count = (length values + 63) / 64

    as_long : length (map word (range_with_len 0 count)) ≡ length ws
    as_long = length-map-range_with_len word 0 count ∙ ap (λ m. (m + 63) / 64) (shown_length s) ∙ sym s.packed.count

    same_bit : (x y : ℕ) → x < 2 → y < 2 → (x == 1) ≡ (y == 1) → x ≡ y
    same_bit x y l m e = grind (arith, nat_tests)

    same_word : (k : ℕ) → word k ≡ get_or ws k 0
    same_word k =
        same_from_bits_below 64 (word k) (get_or ws k 0) (number-lt 64 _) (s.packed.each k) (λ j l.
        same_bit _ _ (bit_at-lt (word k) j) (bit_at-lt (get_or ws k 0) j)
        (number-at 64 (λ i. at values (k * 64 + i)) j l ∙ shown_at s (k * 64 + j) ∙ is_set_in ws k j l))

-- lists of one length are equal where their words are
pub eq_words : {n m : ℕ} {ws us : List ℕ} {xs ys : List Bool} (a b : List ℕ) → Shows xs n ws → Shows ys m us → a ≡ ws → b ≡ us → n ≡ m → pointwise nat_eq a b ≡ pointwise beq xs ys
eq_words {n} {m} {ws} {us} {xs} {ys} a b s t d e len =
    one_answer {P = xs ≡ ys} (pointwise nat_eq a b) (pointwise beq xs ys) (
      λ q. sym s.shown ∙ ap (λ k. tabulate k (is_set ws)) len ∙ ap (λ vs. tabulate m (is_set vs)) (sym d ∙ (bytes_decides a b).0 q ∙ e) ∙ t.shown,
      λ q. (bytes_decides a b).1 (d ∙ words_are s ∙ ap words_of q ∙ sym (e ∙ words_are t)),
    ) (pointwise_decides booleans_Decides xs ys)

-- and lists of different lengths are not
pub eq_lengths : {n m : ℕ} {ws us : List ℕ} {xs ys : List Bool} → Shows xs n ws → Shows ys m us → (n ≡ m → ⊥) → nat_eq n m ≡ pointwise beq xs ys
eq_lengths {n} {m} {ws} {us} {xs} {ys} s t ne = ne_eqb n m ne ∙ sym (unequal beq xs ys (λ q. ne (sym (shown_length s) ∙ q ∙ shown_length t)))
