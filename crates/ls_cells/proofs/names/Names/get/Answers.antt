use Rattle.std.proofs.Common.{ap, ◌∙◌}
use Rattle.ls_memo.specs.Kept.{kept_for}
use Rattle.ls_memo.proofs.KeptLemmas.{kept_from_lookup}
use Rattle.ls_cells.proofs.names.Names.get.Goals as goal

pub returns : goal.returns
returns c = c.copied.ensures ∙ c.get.ensures.value ∙ kept_from_lookup (λ k. k.items) c.args.key.now c.self.inside.kept.entries ∙ ap (kept_for c.args.key.now) c.self.view_is
