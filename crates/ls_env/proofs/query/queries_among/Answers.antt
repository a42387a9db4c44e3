use Rattle.ls_env.proofs.TopLemmas.{queries_none, queries_more}
use Rattle.ls_env.proofs.query.queries_among.Goals as goal

pub loop-form-init : goal.loop-form-init
loop-form-init c = queries_none c.new-queries.result c.new-queries.ensures

pub loop-form-preserved : goal.loop-form-preserved
loop-form-preserved c =
    queries_more (λ d. d.now) c.args.top.now c.loop-form.form-index c.form-item.result c.loop-form.queries
    c.push_query.new.out
    c.loop-form-test.true c.form-item.is c.loop-form.invariant c.in_ok-push_query.ensures
