use Rattle.ls_grammar.specs.steps.Running.{run_object}
use Rattle.ls_grammar.proofs.OutcomeLemmas.{run_push}
use Rattle.ls_grammar.proofs.resolving.resolve_objects.Goals as goal

pub loop-object-preserved : goal.loop-object-preserved
loop-object-preserved c =
    run_push run_object c.args.objects.now c.loop-object.object-index c.object-item.result c.loop-object.room c.resolve_object.new.room c.loop-object.specs c.push.new.self c.in_ok-resolve_object.field-0 _
    c.loop-object-test.true c.object-item.is c.in_ok-resolve_object.ensures c.in_ok-push.ensures.ok c.loop-object.invariant
