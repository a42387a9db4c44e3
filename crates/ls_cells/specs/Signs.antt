-- Lists of truth values, and the words that hold them as bits.
use Rattle.std.specs.Prelude.{ℕ, zero, suc, ◌≡◌, ◌+◌, ◌*◌, ◌/◌, ◌%◌, ◌^◌, ◌<◌, ◌≤◌, ◌==◌, ◌&&◌, Bool, true, false, not, cond, List, [], ◌∷◌, map, length, slice_index, slice_index_or}
use Rattle.std.specs.List.{range_with_len, list_any}
use Rattle.std.specs.Int.{bit_at}

-- the values of a test at the numbers below n, in order
unfoldable pub tabulate : ℕ → (ℕ → Bool) → List Bool
tabulate n f = map f (range_with_len 0 n)

-- the value at a place of a list; false past its end
abbrev pub at : List Bool → ℕ → Bool
at bs i = slice_index_or bs i false

-- two lists joined place by place, as far as both go
abbrev pub zip_with : (Bool → Bool → Bool) → List Bool → List Bool → List Bool
zip_with f (x ∷ xs) (y ∷ ys) = f x y ∷ zip_with f xs ys
zip_with f [] ys = []
zip_with f xs [] = []

-- exactly one of the two is true
abbrev pub differ : Bool → Bool → Bool
differ true b = not b
differ false b = b

-- both are true at some place
abbrev pub meet : List Bool → List Bool → Bool
meet xs ys = list_any (λ b. b) (zip_with (λ a b. a && b) xs ys)

-- the value that words have at a place: 64 values a word, the lowest bit first
unfoldable pub is_set : List ℕ → ℕ → Bool
is_set words i = bit_at (slice_index words (i / 64)) (i % 64) == 1

-- the words hold so many values and no more: their other bits are clear
pub record Packed (len : ℕ) (words : List ℕ) : Type 0 where
  pub count : length words ≡ (len + 63) / 64
  pub each : (k : ℕ) → slice_index words k < 2 ^ 64
  pub rest : (i : ℕ) → len ≤ i → is_set words i ≡ false

-- the number whose n lowest bits are these
unfoldable pub number : ℕ → (ℕ → Bool) → ℕ
number zero f = 0
number (suc n) f = cond (f n) 1 0 * 2 ^ n + number n f

-- the words that hold a list of values
unfoldable pub words_of : List Bool → List ℕ
words_of bs = map (λ k. number 64 (λ j. at bs (k * 64 + j))) (range_with_len 0 ((length bs + 63) / 64))
