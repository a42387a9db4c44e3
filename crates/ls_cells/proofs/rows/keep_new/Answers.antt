use Rattle.ls_cells.proofs.FindLemmas.{new_keys}
use Rattle.ls_cells.proofs.rows.keep_new.Goals as goal

pub returns : goal.returns
returns c = λ many. new_keys c.args.rows.now c.in_ok-all.all.keys c.insert.new.self.keys c.in_ok-key.key c.args.signs.now c.in_ok-all.ensures c.in_ok-key.ensures c.requires.absent c.in_ok-insert.ensures.keys
