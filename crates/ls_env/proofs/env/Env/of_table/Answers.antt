use Rattle.std.proofs.Common.{List, length, ap, ◌∙◌}
use Rattle.ls_object.specs.declared.symbol.Symbol.{Symbol}
use Rattle.ls_env.specs.declared.status.NameStatus.{NameStatus}
use Rattle.ls_env.specs.Statuses.{looked_up}
use Rattle.ls_env.specs.StructureTypes.{by_tree}
use Rattle.ls_env.proofs.NumberLemmas.{number_at}
use Rattle.ls_env.proofs.env.Env.of_table.Goals as goal

pub invariant_of-result : goal.invariant_of-result
invariant_of-result c =
    record {
      numbers = number_at (length c.args.table.templates) c.in_ok-statuses.statuses c.in_ok-statuses.ensures.numbered;
      quote =
          c.by_tree-quoted.ensures
          ∙ ap (by_tree c.args.tree c.in_ok-quote.quote)
          (c.looked_up-listed.ensures ∙ ap (λ (ss : List NameStatus). looked_up c.args.names.keys ss c.in_ok-quote.quote) c.as_slice.ensures)
          ∙ ap (λ (s : Symbol). by_tree c.args.tree s (looked_up c.args.names.keys c.in_ok-statuses.statuses s)) c.in_ok-quote.ensures;
    }
