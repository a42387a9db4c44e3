use Rattle.ls_cells.proofs.PackedLemmas.{shows, has_word, get_is}
use Rattle.ls_cells.proofs.signs.Signs.get.Goals as goal

pub bounds-words-i : goal.bounds-words-i
bounds-words-i c = rw c.as_slice-words.ensures (has_word (shows c.self.invariant c.self.view_is) c.args.i c.requires)

pub returns : goal.returns
returns c = rw c.as_slice-words.ensures (get_is (shows c.self.invariant c.self.view_is) c.args.i)
