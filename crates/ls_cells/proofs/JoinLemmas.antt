-- Two lists of truth values joined word by word.
use Rattle.std.proofs.Common.{ℕ, ◌≡◌, ◌∙◌, ◌+◌, ◌*◌, ◌/◌, ◌%◌, ◌<◌, ◌^◌, Bool, true, false, ◌==◌, ◌&&◌, ◌||◌, List, length, get_or, arith, ap, sym, subst, refl, w64, inl, inr}
use Rattle.std.specs.Int.{bit_at, trailing_zeros}
use Rattle.std.specs.Prelude.{bit_and, bit_or, bit_xor, MatchBool}
use Rattle.std.specs.List.{refill, list_any}
use Rattle.std.proofs.lemmas.Bool.{cases_lt}
use Rattle.std.proofs.lemmas.List.Folds.{list_any_at}
use Rattle.std.proofs.lemmas.Nat.{or_lt, xor_lt, and_le_l}
use Rattle.std.proofs.lemmas.Nat.Bits.{bit_at-zero}
use Rattle.ls_cells.specs.Signs.{tabulate, is_set, zip_with, differ, meet}
use Rattle.ls_cells.specs.steps.Words.{Zipped, Apart, Met}
use Rattle.ls_cells.proofs.BitLemmas.{and_test, or_test, xor_test, lowest_set}
use Rattle.ls_cells.proofs.TabulateLemmas.{length-tabulate, at-tabulate, zip_tabulate, any_false}
use Rattle.ls_cells.proofs.PackedLemmas.{Shows, shows, shown_length, is_set_in, refilled, Holding, holding_shows}

-- lists of one length have as many words
pub as_many_words : {n m : ℕ} {ws us : List ℕ} {xs ys : List Bool} (before given : List ℕ) → Shows xs n ws → Shows ys m us → length xs ≡ length ys → before ≡ ws → given ≡ us
    → length before ≡ length given
as_many_words before given s t l d e = omega (arith, shown_length s, shown_length t, s.packed.count, t.packed.count, ap length d, ap length e)

-- two lists joined by a test of two bits
module _ (op : ℕ → ℕ → ℕ) (both : Bool → Bool → Bool) (tells : (a b j : ℕ) → (bit_at (op a b) j == 1) ≡ both (bit_at a j == 1) (bit_at b j == 1))
    (fits : (a b : ℕ) → a < 2 ^ 64 → b < 2 ^ 64 → op a b < 2 ^ 64) (none : both false false ≡ false) where
  pub joined : {n m : ℕ} {ws us : List ℕ} {xs ys : List Bool} (before given out : List ℕ) → Shows xs n ws → Shows ys m us → length xs ≡ length ys → before ≡ ws → given ≡ us → Zipped op before given out
      → Shows (zip_with both xs ys) n (refill (length ws) ws out)
  joined {n} {m} {ws} {us} {xs} {ys} before given out s t l d e z =
      let h = holding_shows n (λ i. both (is_set ws i) (is_set us i)) out holding in
      rw (refilled ws out zipped.as_long) (shows h.packed (
      h.shown ∙ sym (zip_tabulate both n (is_set ws) (is_set us)) ∙ ap (λ zs. zip_with both zs (tabulate n (is_set us))) s.shown
      ∙ ap (zip_with both xs) (ap (λ k. tabulate k (is_set us)) len ∙ t.shown)))
    where
      zipped : Zipped op ws us out
      zipped = subst (λ vs. Zipped op ws vs out) e (subst (λ vs. Zipped op vs given out) d z)

      len : n ≡ m
      len = sym (shown_length s) ∙ l ∙ shown_length t

      holding : Holding n (λ i. both (is_set ws i) (is_set us i)) out
      holding = record {
        count = zipped.as_long ∙ s.packed.count;
        each = λ k r. rw (zipped.words k (omega (arith, zipped.as_long))) (fits (get_or ws k 0) (get_or us k 0) (s.packed.each k) (t.packed.each k));
        bits = λ k r j q.
            ap (λ w. bit_at w j == 1) (zipped.words k (omega (arith, zipped.as_long))) ∙ tells (get_or ws k 0) (get_or us k 0) j
            ∙ ap (λ x. both x (bit_at (get_or us k 0) j == 1)) (sym (is_set_in ws k j q)) ∙ ap (both (is_set ws (k * 64 + j))) (sym (is_set_in us k j q));
        past = λ i r. ap (λ x. both x (is_set us i)) (s.packed.rest i r) ∙ ap (both false) (t.packed.rest i (omega (arith, len))) ∙ none;
      }

-- by AND, by OR and by difference
pub and_shows : {n m : ℕ} {ws us : List ℕ} {xs ys : List Bool} (before given out : List ℕ) → Shows xs n ws → Shows ys m us → length xs ≡ length ys → before ≡ ws → given ≡ us → Zipped bit_and before given out
    → Shows (zip_with (λ a b. a && b) xs ys) n (refill (length ws) ws out)
and_shows = joined bit_and (λ a b. a && b) and_test (λ a b l m. omega (arith, and_le_l a b)) refl

pub or_shows : {n m : ℕ} {ws us : List ℕ} {xs ys : List Bool} (before given out : List ℕ) → Shows xs n ws → Shows ys m us → length xs ≡ length ys → before ≡ ws → given ≡ us → Zipped bit_or before given out
    → Shows (zip_with (λ a b. a || b) xs ys) n (refill (length ws) ws out)
or_shows = joined bit_or (λ a b. a || b) or_test (or_lt 64) refl

pub xor_shows : {n m : ℕ} {ws us : List ℕ} {xs ys : List Bool} (before given out : List ℕ) → Shows xs n ws → Shows ys m us → length xs ≡ length ys → before ≡ ws → given ≡ us → Zipped bit_xor before given out
    → Shows (zip_with differ xs ys) n (refill (length ws) ws out)
xor_shows = joined bit_xor differ xor_test (xor_lt 64) refl

-- whether words have a bit in common tells whether the lists have a true value at one place
pub meet_is : {n m : ℕ} {ws us : List ℕ} {xs ys : List Bool} (r : Bool) (a b : List ℕ) → Shows xs n ws → Shows ys m us → length xs ≡ length ys → a ≡ ws → b ≡ us → MatchBool r (Met a b) (Apart a b)
    → r ≡ meet xs ys
meet_is {n} {m} {ws} {us} {xs} {ys} r a b s t l d e h =
    by_answer r (subst (λ vs. MatchBool r (Met ws vs) (Apart ws vs)) e (subst (λ vs. MatchBool r (Met vs b) (Apart vs b)) d h))
  where
    both : ℕ → Bool
    both i = is_set ws i && is_set us i

    as_bits : meet xs ys ≡ list_any (λ x. x) (tabulate n both)
    as_bits =
        ap (λ zs. meet zs ys) (sym s.shown) ∙ ap (meet (tabulate n (is_set ws))) (sym t.shown ∙ ap (λ k. tabulate k (is_set us)) (sym (shown_length t) ∙ sym l ∙ shown_length s))
        ∙ ap (list_any (λ x. x)) (zip_tabulate (λ x y. x && y) n (is_set ws) (is_set us))

    bit : (k j : ℕ) → j < 64 → both (k * 64 + j) ≡ (bit_at (bit_and (get_or ws k 0) (get_or us k 0)) j == 1)
    bit k j q =
        ap (λ x. x && is_set us (k * 64 + j)) (is_set_in ws k j q) ∙ ap (λ y. bit_at (get_or ws k 0) j == 1 && y) (is_set_in us k j q)
        ∙ sym (and_test (get_or ws k 0) (get_or us k 0) j)

    apart : Apart ws us → (i : ℕ) → i < n → both i ≡ false
    apart p i q =
        let at_word : i / 64 * 64 + i % 64 ≡ i = omega arith in
        ap both (sym at_word) ∙ bit (i / 64) (i % 64) (omega arith)
        ∙ ap (λ w. bit_at w (i % 64) == 1) (p (i / 64) (omega (arith, s.packed.count))) ∙ ap (λ k. k == 1) (bit_at-zero (i % 64))

    met : Met ws us → list_any (λ x. x) (tabulate n both) ≡ true
    met (k, q, some) =
        let word : ℕ = bit_and (get_or ws k 0) (get_or us k 0) in
        let low = lowest_set word some (omega (arith, and_le_l (get_or ws k 0) (get_or us k 0), s.packed.each k)) in
        let i : ℕ = k * 64 + trailing_zeros w64 word in
        let set : both i ≡ true = bit k (trailing_zeros w64 word) low.0 ∙ low.1 in
        elim (cases_lt i n) [
          | inl g ↦ list_any_at (λ x. x) (tabulate n both) i false (omega (arith, length-tabulate n both)) (at-tabulate n both i g ∙ set)
          | inr g ↦ absurd (let clear = ap (λ x. x && is_set us i) (s.packed.rest i g) in let f = sym clear ∙ set in cc)
        ]

    by_answer : (r : Bool) → MatchBool r (Met ws us) (Apart ws us) → r ≡ meet xs ys
    by_answer true h = sym (as_bits ∙ met h)
    by_answer false h = sym (as_bits ∙ any_false (tabulate n both) (λ i q. at-tabulate n both i (omega (arith, length-tabulate n both)) ∙ apart h i (omega (arith, length-tabulate n both))))
