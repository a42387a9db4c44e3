use Rattle.ls_cells.proofs.PackedLemmas.{shows}
use Rattle.ls_cells.proofs.JoinLemmas.{as_many_words, meet_is}
use Rattle.ls_cells.proofs.signs.Signs.meets.Goals as goal

pub words_meet-requires : goal.words_meet-requires
words_meet-requires c = as_many_words _ _ (shows c.self.invariant c.self.view_is) (shows c.other.invariant c.other.view_is) c.requires c.as_slice.ensures c.as_slice-2.ensures

pub returns : goal.returns
returns c = meet_is _ _ _ (shows c.self.invariant c.self.view_is) (shows c.other.invariant c.other.view_is) c.requires c.as_slice.ensures c.as_slice-2.ensures c.words_meet.ensures
