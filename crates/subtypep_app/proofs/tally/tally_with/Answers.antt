use Rattle.std.proofs.Common.{◌∙◌, ◌≤◌, ap, sym, subst, length}
use Rattle.std.proofs.Math.Nat.{min-le_left}
use Rattle.ls_cells.specs.Kept.{entries_in, count_rows}
use Rattle.subtypep_app.specs.declared.tally.Verdict.TheVariants as verdict
use Rattle.subtypep_app.specs.Tallies.{count_of}
use Rattle.subtypep_app.proofs.TallyLemmas.{AreTallied-from_spent}
use Rattle.subtypep_app.proofs.tally.tally_with.Goals as goal

-- the verdicts are those on the queries, and the rows those that the session keeps
pub returns : goal.returns
returns g c =
    let env = c.args.env.now in
    let items = c.in_ok-verdicts.verdicts.items in
    let value = c.as_slice-verdicts.ensures.value in
    let new = entries_in c.verdicts_on.new.decider.session in
    AreTallied-from_spent c.args.decider.now.budget env c.as_slice.result.now items _ (entries_in c.args.decider.now.session) new
    c.args.steps.now c.verdicts_on.new.steps c.requires.empty (c.as_slice.ensures ∙ c.queries.ensures)
    c.in_ok-verdicts.ensures.right c.in_ok-verdicts.ensures.spent
    (ap length value) (c.count_of.ensures ∙ ap (count_of verdict.Included) value)
    (c.count_of-2.ensures ∙ ap (count_of verdict.NotIncluded) value)
    (c.count_of-3.ensures ∙ ap (count_of verdict.TooLarge) value)
    (subst (λ n. n ≤ count_rows new) (sym c.rows.ensures.count) (min-le_left (count_rows new) _)) c.rows.ensures.some
