use Rattle.std.proofs.Common.{◌≡◌, map, take}
use Rattle.ls_env.specs.TopLevel.{queries_of}
use Rattle.ls_env.proofs.query.queries_among.Given as goal

abbrev pub invariant-loop-form : goal.invariant-loop-form
invariant-loop-form l = l.queries ≡ queries_of (map (λ d. d.now) (take l.form-index l.top))
