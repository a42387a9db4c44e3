use Rattle.ls_cells.proofs.PackedLemmas.{shows}
use Rattle.ls_cells.proofs.JoinLemmas.{as_many_words, or_shows}
use Rattle.ls_cells.proofs.signs.Signs.or_with.Goals as goal

pub or_words-requires : goal.or_words-requires
or_words-requires c = as_many_words _ _ (shows c.self.invariant c.self.view_is) (shows c.other.invariant c.other.view_is) c.requires c.as_mut_slice.ensures.value c.as_slice.ensures

pub invariant_of-self : goal.invariant_of-self
invariant_of-self c = (or_shows _ _ _ (shows c.self.invariant c.self.view_is) (shows c.other.invariant c.other.view_is) c.requires c.as_mut_slice.ensures.value c.as_slice.ensures c.or_words.ensures).packed

pub returns : goal.returns
returns c = (or_shows _ _ _ (shows c.self.invariant c.self.view_is) (shows c.other.invariant c.other.view_is) c.requires c.as_mut_slice.ensures.value c.as_slice.ensures c.or_words.ensures).shown
