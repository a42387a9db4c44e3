use Rattle.ls_cells.proofs.PackedLemmas.{shows, negated_shows}
use Rattle.ls_cells.proofs.signs.Signs.negate.Goals as goal

pub invariant_of-self : goal.invariant_of-self
invariant_of-self c = (negated_shows _ _ (shows c.self.invariant c.self.view_is) c.as_mut_slice.ensures.value c.negate_words.ensures).packed

pub returns : goal.returns
returns c = (negated_shows _ _ (shows c.self.invariant c.self.view_is) c.as_mut_slice.ensures.value c.negate_words.ensures).shown
