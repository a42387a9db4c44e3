use Rattle.std.proofs.Common.{◌≤◌, subst, length, arith}
use Rattle.ls_cells.specs.Kept.{entries_in}
use Rattle.ls_cells.proofs.EntryLemmas.{kept_counted}
use Rattle.ls_cells.proofs.store.Store.rows.Goals as goal

pub returns-clause-some : goal.returns-clause-some
returns-clause-some c =
    subst (λ v. length (entries_in v) ≤ c.self.inside.kept.rows) c.self.view_is
    (kept_counted c.self.inside.structures c.self.inside.table c.self.inside.kept.memo c.self.inside.kept.rows c.self.invariant.kept c.self.invariant.counted (omega (arith, c.len-lists.type_inv, c.len-lists.ensures)))
