use Rattle.std.proofs.Common.{map, ap, ◌∙◌}
use Rattle.std.proofs.lemmas.List.{map_push}
use Rattle.ls_env.specs.steps.Gathered.{lent_definition}
use Rattle.ls_env.proofs.DefinitionLemmas.{definitions_more, definitions_same}
use Rattle.ls_env.proofs.definition.definitions_among.Goals as goal
use Rattle.ls_env.proofs.definition.definitions_among.Goals.{in-Some+in_ok-push, in_default}

pub loop-form-preserved : goal.loop-form-preserved
loop-form-preserved c =
    elim c.match-definition_of.branch [
      | in-Some+in_ok-push w ↦
          ap (map lent_definition) (w.definitions-is ∙ w.in_ok-push.ensures.ok)
          ∙ map_push lent_definition c.loop-form.definitions w.in-Some.definition
          ∙ definitions_more (λ d. d.now) c.args.top.now c.loop-form.form-index c.form-item.result
          (map lent_definition c.loop-form.definitions) (lent_definition w.in-Some.definition)
          c.loop-form-test.true c.form-item.is c.loop-form.invariant w.in-Some.ensures
      | in_default w ↦
          ap (map lent_definition) w.definitions-is
          ∙ definitions_same (λ d. d.now) c.args.top.now c.loop-form.form-index c.form-item.result
          (map lent_definition c.loop-form.definitions)
          c.loop-form-test.true c.form-item.is c.loop-form.invariant w.in_default.ensures
    ]
