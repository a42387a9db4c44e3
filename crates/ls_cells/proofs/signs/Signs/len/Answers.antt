use Rattle.std.proofs.Common.{sym}
use Rattle.ls_cells.proofs.PackedLemmas.{shows, shown_length}
use Rattle.ls_cells.proofs.signs.Signs.len.Goals as goal

pub returns : goal.returns
returns c = sym (shown_length (shows c.self.invariant c.self.view_is))
