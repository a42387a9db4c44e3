use Rattle.std.proofs.Common.{◌≡◌, ℕ, ◌<◌, ◌^◌, length, get_or}
use Rattle.ls_cells.specs.steps.Words.{IsIntervalWord}
use Rattle.ls_cells.proofs.words.interval_words.Given as goal

abbrev pub invariant-words : goal.invariant-words
invariant-words l = record {
  as_long : length l.words.items ≡ l.k;
  small : (j : ℕ) → get_or l.words.items j 0 < 2 ^ 64;
  done : (j : ℕ) → j < l.k → IsIntervalWord l.from l.to j (get_or l.words.items j 0);
}
