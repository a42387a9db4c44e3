use Rattle.std.proofs.Common.{ap, ◌∙◌}
use Rattle.ls_cells.specs.Kept.{codes_in, entries_in}
use Rattle.ls_cells.proofs.CodeLemmas.{codes_same}
use Rattle.ls_cells.proofs.EntryLemmas.{entries_grown}
use Rattle.ls_cells.proofs.StoreLemmas.{store_grown}
use Rattle.ls_cells.proofs.store.Store.intern.Goals as goal

pub invariant_of-self : goal.invariant_of-self
invariant_of-self c = store_grown c.self.inside.structures c.self.inside.table c.add.new.self c.self.inside.codes c.self.inside.kept.memo c.self.inside.kept.rows c.add.ensures.grows c.self.invariant

pub returns-clause-codes : goal.returns-clause-codes
returns-clause-codes c = codes_same c.self.inside.table c.add.new.self c.self.inside.codes c.add.ensures.grows c.self.invariant.upgraded.keys ∙ ap codes_in c.self.view_is

pub returns-clause-kept : goal.returns-clause-kept
returns-clause-kept c = entries_grown c.self.inside.structures c.self.inside.table c.add.new.self c.self.inside.kept.memo c.add.ensures.grows c.self.invariant.kept.each ∙ ap entries_in c.self.view_is
