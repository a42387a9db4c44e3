use Rattle.std.proofs.Common.{◌∙◌}
use Rattle.ls_cells.proofs.PackedLemmas.{interval_shows}
use Rattle.ls_cells.proofs.signs.Signs.interval.Goals as goal

pub invariant_of-result : goal.invariant_of-result
invariant_of-result c =
    let ok = c.in_ok-interval_words.ensures in
    (interval_shows c.args.len c.args.from c.args.to _ c.requires (ok.as_long ∙ c.div_ceil.ensures) ok.small (λ k l. ok.bits k (rw c.div_ceil.ensures l))).packed

pub returns : goal.returns
returns c =
    let ok = c.in_ok-interval_words.ensures in
    (interval_shows c.args.len c.args.from c.args.to _ c.requires (ok.as_long ∙ c.div_ceil.ensures) ok.small (λ k l. ok.bits k (rw c.div_ceil.ensures l))).shown
