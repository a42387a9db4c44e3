use Rattle.std.proofs.Common.{◌∙◌, length, subst}
use Rattle.ls_cells.specs.steps.Turning.{HasTurned}
use Rattle.ls_cells.proofs.RaiseLemmas.{turned_none, turned_all}
use Rattle.ls_cells.proofs.transpose.transpose.Goals as goal

pub raise_all-requires : goal.raise_all-requires
raise_all-requires c = turned_none c.args.lists.now c.in_ok-columns.columns.items c.in_ok-columns.ensures.1

pub returns : goal.returns
returns c =
    c.from_vec.ensures
    ∙ turned_all c.args.lists.now c.raise_all.new.columns.items c.args.count
    (subst (λ n. HasTurned c.args.lists.now n (length c.args.lists.now) c.raise_all.new.columns.items) c.in_ok-columns.ensures.0 c.raise_all.ensures)
