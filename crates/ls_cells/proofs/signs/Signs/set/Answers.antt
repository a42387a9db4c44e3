use Rattle.std.proofs.Common.{◌∙◌}
use Rattle.ls_cells.proofs.SetLemmas.{set_flipped, set_kept}
use Rattle.ls_cells.proofs.signs.Signs.set.Goals as goal

pub returns-then-get-value : goal.returns-then-get-value
returns-then-get-value c = c.flip.ensures ∙ set_flipped c.args.self.now c.args.i c.get.result c.args.value c.get.ensures c.if-get-value.true

pub returns-else-get-value : goal.returns-else-get-value
returns-else-get-value c = set_kept c.args.self.now c.args.i c.get.result c.args.value c.get.ensures c.if-get-value.false
