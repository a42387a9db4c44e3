use Rattle.std.proofs.Common.{◌≡◌, drop, map}
use Rattle.ls_spec.specs.Meaning.{specifier}
use Rattle.ls_grammar.specs.steps.Running.{run_all, behind, run_object}
use Rattle.ls_grammar.proofs.resolving.resolve_objects.Given as goal

abbrev pub invariant-loop-object : goal.invariant-loop-object
invariant-loop-object l = run_all run_object l.objects l.fn.room ≡ behind (map specifier l.specs) (run_all run_object (drop l.object-index l.objects) l.room)
