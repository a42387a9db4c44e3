use Rattle.ls_cells.proofs.PackedLemmas.{shows}
use Rattle.ls_cells.proofs.JoinLemmas.{as_many_words, xor_shows}
use Rattle.ls_cells.proofs.signs.Signs.xor_with.Goals as goal

pub xor_words-requires : goal.xor_words-requires
xor_words-requires c = as_many_words _ _ (shows c.self.invariant c.self.view_is) (shows c.other.invariant c.other.view_is) c.requires c.as_mut_slice.ensures.value c.as_slice.ensures

pub invariant_of-self : goal.invariant_of-self
invariant_of-self c = (xor_shows _ _ _ (shows c.self.invariant c.self.view_is) (shows c.other.invariant c.other.view_is) c.requires c.as_mut_slice.ensures.value c.as_slice.ensures c.xor_words.ensures).packed

pub returns : goal.returns
returns c = (xor_shows _ _ _ (shows c.self.invariant c.self.view_is) (shows c.other.invariant c.other.view_is) c.requires c.as_mut_slice.ensures.value c.as_slice.ensures c.xor_words.ensures).shown
