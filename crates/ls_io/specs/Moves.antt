-- What calls do to the bytes that a source has left and to those written to a sink: `None` where the object
-- does not tell them. Each is an equation, so an object that does not tell its bytes does not begin to.
use Rattle.std.specs.Prelude.{◌≡◌, ℕ, ◌<◌, ◌≤◌, List, length, take, Result, MatchResult, IfOk, Option}
use Rattle.std.specs.Io.KnownBytes.{prepend_known, append_known, IsAtEnd}

-- The greatest length of a text, in bytes.
abbrev pub limit : ℕ
limit = 16777216

-- A source gave these bytes: they were the first of what was left before, and the others are left now.
abbrev pub Gave : Option (List ℕ) → Option (List ℕ) → List ℕ → Type 0
Gave before now bytes = before ≡ prepend_known bytes now

-- A source gave some bytes, perhaps none: a prefix of what was left before.
abbrev pub GaveSome : Option (List ℕ) → Option (List ℕ) → Type 0
GaveSome before now = (bytes : List ℕ) × Gave before now bytes

-- A source gave just so many bytes.
abbrev pub GaveCount : Option (List ℕ) → Option (List ℕ) → ℕ → Type 0
GaveCount before now count = (bytes : List ℕ) × (length bytes ≡ count) × Gave before now bytes

-- A source gave no more than so many bytes.
abbrev pub GaveAtMost : Option (List ℕ) → Option (List ℕ) → ℕ → Type 0
GaveAtMost before now most = (bytes : List ℕ) × (length bytes ≤ most) × Gave before now bytes

-- A sink took these bytes: they stand behind what was written before.
abbrev pub Took : Option (List ℕ) → Option (List ℕ) → List ℕ → Type 0
Took before now bytes = now ≡ append_known before bytes

-- A sink took a prefix of these bytes, perhaps none or all.
abbrev pub TookPrefix : Option (List ℕ) → Option (List ℕ) → List ℕ → Type 0
TookPrefix before now bytes = (n : ℕ) × (n ≤ length bytes) × Took before now (take n bytes)

-- One call of `read`. At `Ok(n)` the source gave the first n bytes of the buffer, and nothing is left where
-- n is 0 and the buffer is not empty. At `Err` what is left is unchanged.
abbrev pub ReadGives : {E : Type 0} → Option (List ℕ) → Option (List ℕ) → Result ℕ E → List ℕ → Type 0
ReadGives before now result buf = MatchResult result
    (λ n. Gave before now (take n buf) × (n ≡ 0 → 0 < length buf → IsAtEnd now))
    (λ _. now ≡ before)

-- One call of `write`. At `Ok(n)` the sink took the first n of the bytes. At `Err` nothing was appended.
abbrev pub WriteTakes : {E : Type 0} → Option (List ℕ) → Option (List ℕ) → Result ℕ E → List ℕ → Type 0
WriteTakes before now result bytes = MatchResult result
    (λ n. Took before now (take n bytes))
    (λ _. now ≡ before)

-- A call of `write` takes no more bytes than there are, and one at least where there are any.
abbrev pub TakesSome : {E : Type 0} → Result ℕ E → List ℕ → Type 0
TakesSome result bytes = IfOk result (λ n. (n ≤ length bytes) × (0 < length bytes → 0 < n))
