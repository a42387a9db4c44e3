use Rattle.std.proofs.Common.{◌∙◌, ap, subst, sym, ◌<◌}
use Rattle.ls_object.specs.declared.table.TheConstants.{TABLE_LEN}
use Rattle.ls_tables.specs.Table.{extent_at}
use Rattle.ls_tables.proofs.TableLemmas.{extent_at_index}
use Rattle.ls_tables.proofs.extent.held_at.Goals as goal

pub returns : goal.returns
returns c =
    let within = subst (λ k. k < TABLE_LEN) (sym c.from.ensures) c.args.code.in_table in
    c.held_by.ensures ∙ extent_at_index c.from.result _ within ∙ ap extent_at c.from.ensures
