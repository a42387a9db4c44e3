use Rattle.std.proofs.Common.{ap, length, sym, subst, ◌∙◌, IsTrue}
use Rattle.std.specs.Option.{option_copied}
use Rattle.ls_lists.specs.Walks.{among}
use Rattle.ls_intern.specs.Places.{specifiers_at, AllBelow}
use Rattle.ls_cells.specs.Kept.{structures_in, specifiers_in, entries_in, lists, AreCellsOf}
use Rattle.ls_cells.proofs.EntryLemmas.{cells_kept}
use Rattle.ls_cells.proofs.StoreLemmas.{never_none}
use Rattle.ls_cells.proofs.store.Store.cells.Goals as goal

pub unreachable-requires : goal.unreachable-requires
unreachable-requires c =
    never_none c.self.inside.structures c.self.inside.table c.args.list.now c.self.inside.kept.memo c.len-distinct.ensures.distinct
    (subst (λ v. AllBelow (length (specifiers_in v)) c.args.list.now) (sym c.self.view_is) c.requires.below) c.self.invariant.kept
    (subst (λ v. IsTrue (among (specifiers_at (specifiers_in v) c.args.list.now) (lists (entries_in v)))) (sym c.self.view_is) c.requires.kept)
    (sym c.get.ensures ∙ ap option_copied c.in-None.is)

pub returns : goal.returns
returns c =
    subst (λ v. AreCellsOf (structures_in v) (specifiers_in v) (specifiers_at (specifiers_in v) c.args.list.now) c.in-Some.cells.now) c.self.view_is
    (cells_kept c.self.inside.structures c.self.inside.table c.args.list.now c.self.inside.kept.memo c.in-Some.cells.now c.self.invariant.kept.each (sym c.get.ensures ∙ ap option_copied c.in-Some.is))
