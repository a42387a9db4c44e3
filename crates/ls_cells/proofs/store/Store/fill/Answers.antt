use Rattle.std.proofs.Common.{◌≤◌, ◌<◌, ◌+◌, length, subst, IsTrue, OnOk}
use Rattle.std.proofs.lemmas.Result.{on_ok_weaker}
use Rattle.ls_lists.specs.Walks.{among, reached, total, missing}
use Rattle.ls_intern.specs.Places.{specifiers_at}
use Rattle.ls_cells.specs.Kept.{specifiers_in, entries_in, entries_of, lists}
use Rattle.ls_cells.proofs.StoreLemmas.{cost_of, among_after}
use Rattle.ls_cells.proofs.store.Store.fill.Goals as goal

pub returns-clause-cost : goal.returns-clause-cost
returns-clause-cost g c =
    subst (λ v. c.fill.new.steps ≤ c.args.steps.now + total (missing (lists (entries_in v)) (reached (specifiers_at (specifiers_in v) c.args.list.now)))) c.self.view_is
    (cost_of (specifiers_at c.self.inside.table c.args.list.now) (lists (entries_of c.self.inside.table c.self.inside.kept.memo)) (lists (entries_of c.self.inside.table c.fill.new.self.memo)) c.args.steps.now c.fill.new.steps c.self.invariant.kept.closed c.fill.ensures.fills.began)

pub returns-clause-kept : goal.returns-clause-kept
returns-clause-kept g c =
    subst (λ v. OnOk c.fill.result (0 < length c.args.list.now → IsTrue (among (specifiers_at (specifiers_in v) c.args.list.now) (lists (entries_of c.self.inside.table c.fill.new.self.memo))))) c.self.view_is
    (on_ok_weaker c.fill.result (λ e h. among_after c.self.inside.table c.args.list.now (lists (entries_of c.self.inside.table c.self.inside.kept.memo)) _ c.self.invariant.kept.closed e h) c.fill.ensures.all)
