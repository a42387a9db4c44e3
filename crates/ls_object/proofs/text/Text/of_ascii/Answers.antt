use Rattle.std.proofs.lemmas.Str.{chars-IsAscii}
use Rattle.ls_object.proofs.text.Text.of_ascii.Goals as goal

pub returns : goal.returns
returns c = rw (chars-IsAscii c.args.s.now c.requires) at c.of.ensures
