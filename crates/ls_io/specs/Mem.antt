-- The source and the sink over memory, as contracts see them, and what exactly one call does to them.
use Rattle.std.specs.Prelude.{◌≡◌, ℕ, ◌+◌, ◌==◌, ◌≤◌, min, List, [], ◌++◌, length, take, drop, Bool, true, false, ◌||◌, nat_lt, Result, MatchResult}
use Rattle.std.specs.List.{list_any}
use Rattle.ls_io.specs.Causes.{raised}

-- Whether the call after so many calls is among those that are to fail, which are numbered from 1.
abbrev pub is_next_failing : List ℕ → ℕ → Bool
is_next_failing failing calls = list_any (λ number. number == (calls + 1)) failing

-- A source over memory: the bytes that are left, how many a call gives at most, the numbers of the calls
-- that are to fail, how many calls were made, and how many of these failed.
pub record SourceState : Type 0 where
  pub left : List ℕ
  pub piece : ℕ
  pub failing : List ℕ
  pub calls : ℕ
  pub faults : ℕ

-- A sink over memory: the bytes that were written, for how many there is memory in all, how many a call takes
-- at most, the numbers of the calls that are to fail, how many calls were made, and how many of these failed.
pub record SinkState : Type 0 where
  pub bytes : List ℕ
  pub room : ℕ
  pub piece : ℕ
  pub failing : List ℕ
  pub calls : ℕ
  pub faults : ℕ

-- How many bytes a read gives into a buffer of this length.
abbrev pub read_count : SourceState → ℕ → ℕ
read_count source size = min source.piece (min size (length source.left))

-- How many of so many bytes a write takes, where there is room.
abbrev pub write_count : SinkState → ℕ → ℕ
write_count sink size = min sink.piece size

-- Whether a write of so many bytes fails: it is to fail, or the bytes that it would take pass the room.
abbrev pub is_write_failing : SinkState → ℕ → Bool
is_write_failing sink size = is_next_failing sink.failing sink.calls
    || nat_lt sink.room (length sink.bytes + write_count sink size)

-- No write is to fail, and so many more bytes stay within the room.
abbrev pub IsRoomFor : SinkState → ℕ → Type 0
IsRoomFor sink count = (sink.failing ≡ []) × (length sink.bytes + count ≤ sink.room)

-- One call of `read`, with the buffer as it is after the call: it fails exactly where it is to fail, and
-- else moves one piece of what is left into the buffer. Nothing else changes but the counts.
abbrev pub ReadsPiece : {E : Type 0} → SourceState → SourceState → Result ℕ E → List ℕ → Type 0
ReadsPiece old new result buf = MatchResult result
    (λ n. (is_next_failing old.failing old.calls ≡ false)
    × (n ≡ read_count old (length buf))
    × (take n buf ≡ take n old.left)
    × (new ≡ record old { left = drop n old.left; calls = raised old.calls }))
    (λ _. (is_next_failing old.failing old.calls ≡ true)
    × (new ≡ record old { calls = raised old.calls; faults = raised old.faults }))

-- One call of `write`: it fails exactly where it is to fail or the room is passed, and else appends one piece
-- of the bytes. Nothing else changes but the counts.
abbrev pub WritesPiece : {E : Type 0} → SinkState → SinkState → Result ℕ E → List ℕ → Type 0
WritesPiece old new result bytes = MatchResult result
    (λ n. (is_write_failing old (length bytes) ≡ false)
    × (n ≡ write_count old (length bytes))
    × (new ≡ record old { bytes = old.bytes ++ take n bytes; calls = raised old.calls }))
    (λ _. (is_write_failing old (length bytes) ≡ true)
    × (new ≡ record old { calls = raised old.calls; faults = raised old.faults }))
