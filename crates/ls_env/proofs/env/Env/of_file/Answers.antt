use Rattle.std.proofs.Common.{[], map, sym, ap, ◌∙◌}
use Rattle.std.proofs.lemmas.Result.{IfOk-weaker}
use Rattle.ls_env.specs.Definitions.{definitions}
use Rattle.ls_env.specs.TopLevel.{top_in, queries_of}
use Rattle.ls_env.specs.steps.Gathered.{lent_definition, shown, standing_of}
use Rattle.ls_env.specs.steps.Joining.{joined}
use Rattle.ls_env.proofs.NumberLemmas.{table_numbered}
use Rattle.ls_env.proofs.EnvLemmas.{file_env}
use Rattle.ls_env.proofs.env.Env.of_file.Goals as goal

pub of_table-requires : goal.of_table-requires
of_table-requires c = table_numbered (map shown c.as_slice-6.result.now) c.in_ok-table.table c.in_ok-table.ensures

pub returns : goal.returns
returns c =
    IfOk-weaker c.of_table.result _ _
    (λ env made. file_env c.args.forms.now (map (λ d. d.now) c.in_ok-top.top) c.in_ok-queries.queries
    (map lent_definition c.as_slice-4.result.now) c.in_ok-tree.tree
    c.in_ok-names.field-0.names.keys (map shown c.as_slice-6.result.now) env
    (c.in_ok-top.ensures ∙ ap top_in c.as_slice.ensures)
    (c.in_ok-queries.ensures ∙ ap (λ top. queries_of (map (λ d. d.now) top)) c.as_slice-2.ensures)
    (ap (map lent_definition) c.as_slice-4.ensures ∙ c.in_ok-definitions.ensures
    ∙ ap (λ top. definitions (map (λ d. d.now) top)) c.as_slice-3.ensures)
    c.in_ok-names.ensures.names
    (ap (map shown) c.as_slice-6.ensures ∙ c.in_ok-names.ensures.defined)
    (c.in_ok-tree.ensures ∙ ap (λ defined. joined [] (map shown defined)) (c.as_slice-5.ensures ∙ sym c.as_slice-6.ensures))
    (made (map standing_of (map shown c.as_slice-6.result.now)) c.in_ok-table.ensures))
    c.of_table.ensures
