use Rattle.std.proofs.Common.{sym, ◌∙◌}
use Rattle.ls_lists.specs.Candidates.{is_string}
use Rattle.ls_decide.proofs.ListLemmas.{any_yes}
use Rattle.ls_sides.proofs.GatherLemmas.{below_at}
use Rattle.ls_decide.proofs.candidates.has_string.Goals as goal

pub string_at-requires : goal.string_at-requires
string_at-requires c = below_at _ _ _ c.requires c.loop-id-test.true

pub returns-then-string_at : goal.returns-then-string_at
returns-then-string_at c = sym (any_yes is_string c.args.table.now c.args.atoms.now c.loop-id.id-index c.loop-id-test.true (sym c.string_at.ensures ∙ c.if-string_at.true))
