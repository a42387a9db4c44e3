-- What is done with the words that hold truth values, bit by bit.
use Rattle.std.specs.Prelude.{ℕ, ◌≡◌, ◌≢◌, ◌<◌, ◌+◌, ◌*◌, ◌/◌, ◌%◌, ◌^◌, ◌==◌, ◌&&◌, Bool, true, false, not, nat_lt, nat_le, List, length, slice_index, slice_set, bit_and, bit_xor}
use Rattle.std.specs.Int.{bit_at, bit_not, w64}
use Rattle.ls_cells.specs.Signs.{is_set, Packed}

-- one value more, behind `len` others
pub record Pushed (len : ℕ) (value : Bool) (old new : List ℕ) : Type 0 where
  pub packed : Packed (len + 1) new
  pub kept : (i : ℕ) → i < len → is_set new i ≡ is_set old i
  pub last : is_set new len ≡ value

-- the words with the bit of one place negated
abbrev pub flipped : List ℕ → ℕ → List ℕ
flipped words i = slice_set words (i / 64) (bit_xor (slice_index words (i / 64)) (2 ^ (i % 64)))

-- each word of the third list is op of those of the first two
pub record Zipped (op : ℕ → ℕ → ℕ) (xs ys out : List ℕ) : Type 0 where
  pub as_long : length out ≡ length xs
  pub words : (k : ℕ) → k < length xs → slice_index out k ≡ op (slice_index xs k) (slice_index ys k)

-- no bit is set in both
abbrev pub Apart : List ℕ → List ℕ → Type 0
Apart xs ys = (k : ℕ) → k < length xs → bit_and (slice_index xs k) (slice_index ys k) ≡ 0

-- some bit is set in both
abbrev pub Met : List ℕ → List ℕ → Type 0
Met xs ys = (k : ℕ) × (k < length xs) × (bit_and (slice_index xs k) (slice_index ys k) ≢ 0)

-- the word at place k of those whose bits from one place up to another are set
abbrev pub IsIntervalWord : ℕ → ℕ → ℕ → ℕ → Type 0
IsIntervalWord from to k word =
    (j : ℕ) → j < 64 → (bit_at word j == 1) ≡ (nat_le from (k * 64 + j) && nat_lt (k * 64 + j) to)

-- the word at place k with the bits negated whose places in the list are below len, and the others clear
abbrev pub IsNegatedWord : ℕ → ℕ → ℕ → ℕ → Type 0
IsNegatedWord len k word new =
    (j : ℕ) → j < 64 → (bit_at new j == 1) ≡ (nat_lt (k * 64 + j) len && not (bit_at word j == 1))

-- words with the bits of the first len places negated, and the others clear
pub record Negated (len : ℕ) (old new : List ℕ) : Type 0 where
  pub as_long : length new ≡ length old
  pub small : (k : ℕ) → k < length old → slice_index new k < 2 ^ 64
  pub bits : (k : ℕ) → k < length old → IsNegatedWord len k (slice_index old k) (slice_index new k)

-- no bit is set
abbrev pub IsClear : List ℕ → Type 0
IsClear xs = (k : ℕ) → k < length xs → slice_index xs k ≡ 0

-- the bit at a place of a word is set
abbrev pub IsSetIn : List ℕ → (ℕ × ℕ) → Type 0
IsSetIn xs p = (p.0 < length xs) × (p.1 < 64) × ((bit_at (slice_index xs p.0) p.1 == 1) ≡ true)

-- each bit that is set in the first list is set in the second
abbrev pub IsWithin : List ℕ → List ℕ → Type 0
IsWithin xs ys = (k : ℕ) → k < length xs → bit_and (slice_index xs k) (bit_not w64 (slice_index ys k)) ≡ 0

-- the bit at a place of a word is set in the first list and not in the second
abbrev pub IsOutside : List ℕ → List ℕ → (ℕ × ℕ) → Type 0
IsOutside xs ys p = IsSetIn xs p × ((bit_at (slice_index ys p.0) p.1 == 1) ≡ false)
