use Rattle.std.proofs.Common.{◌≡◌, map, take}
use Rattle.ls_env.specs.Definitions.{definitions}
use Rattle.ls_env.specs.steps.Gathered.{lent_definition}
use Rattle.ls_env.proofs.definition.definitions_among.Given as goal

abbrev pub invariant-loop-form : goal.invariant-loop-form
invariant-loop-form l = map lent_definition l.definitions ≡ definitions (map (λ d. d.now) (take l.form-index l.top))
