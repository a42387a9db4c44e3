use Rattle.std.proofs.Common.{◌∙◌}
use Rattle.ls_cells.proofs.PackedLemmas.{shows}
use Rattle.ls_cells.proofs.KeyLemmas.{eq_words, eq_lengths}
use Rattle.ls_cells.proofs.signs.SignsPartialEq.eq.Goals as goal

pub returns-then-self-other : goal.returns-then-self-other
returns-then-self-other c =
    c.eq.ensures ∙ eq_words _ _ (shows c.self.invariant c.self.view_is) (shows c.other.invariant c.other.view_is) c.as_slice.ensures c.as_slice-then-self-other.ensures c.if-self-other.true

pub returns-else-self-other : goal.returns-else-self-other
returns-else-self-other c = eq_lengths (shows c.self.invariant c.self.view_is) (shows c.other.invariant c.other.view_is) c.if-self-other.false
