use Rattle.std.proofs.Common.{◌≡◌, ℕ, ◌<◌, ◌≤◌, ◌^◌, get_or}
use Rattle.ls_cells.specs.steps.Words.{IsNegatedWord}
use Rattle.ls_cells.proofs.words.negate_words.Given as goal

abbrev pub invariant-words : goal.invariant-words
invariant-words l = record {
  small : (j : ℕ) → j < l.k → get_or l.words j 0 < 2 ^ 64;
  done : (j : ℕ) → j < l.k → IsNegatedWord l.len j (get_or l.fn.words j 0) (get_or l.words j 0);
  left : (j : ℕ) → l.k ≤ j → get_or l.words j 0 ≡ get_or l.fn.words j 0;
}
