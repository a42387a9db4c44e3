use Rattle.std.proofs.Common.{◌≡◌, ℕ, ◌<◌, ◌≤◌, get_or}
use Rattle.std.specs.Prelude.{bit_and}
use Rattle.ls_cells.proofs.words.and_words.Given as goal

abbrev pub invariant-words : goal.invariant-words
invariant-words l = record {
  done : (j : ℕ) → j < l.k → get_or l.words j 0 ≡ bit_and (get_or l.fn.words j 0) (get_or l.other j 0);
  left : (j : ℕ) → l.k ≤ j → get_or l.words j 0 ≡ get_or l.fn.words j 0;
}
