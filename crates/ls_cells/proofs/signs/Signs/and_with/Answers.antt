use Rattle.ls_cells.proofs.PackedLemmas.{shows}
use Rattle.ls_cells.proofs.JoinLemmas.{as_many_words, and_shows}
use Rattle.ls_cells.proofs.signs.Signs.and_with.Goals as goal

pub and_words-requires : goal.and_words-requires
and_words-requires c = as_many_words _ _ (shows c.self.invariant c.self.view_is) (shows c.other.invariant c.other.view_is) c.requires c.as_mut_slice.ensures.value c.as_slice.ensures

pub invariant_of-self : goal.invariant_of-self
invariant_of-self c = (and_shows _ _ _ (shows c.self.invariant c.self.view_is) (shows c.other.invariant c.other.view_is) c.requires c.as_mut_slice.ensures.value c.as_slice.ensures c.and_words.ensures).packed

pub returns : goal.returns
returns c = (and_shows _ _ _ (shows c.self.invariant c.self.view_is) (shows c.other.invariant c.other.view_is) c.requires c.as_mut_slice.ensures.value c.as_slice.ensures c.and_words.ensures).shown
