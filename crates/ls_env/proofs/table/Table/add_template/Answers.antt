use Rattle.std.proofs.lemmas.Result.{on_ok_weaker}
use Rattle.ls_env.proofs.TableLemmas.{table_template}
use Rattle.ls_env.proofs.table.Table.add_template.Goals as goal

pub returns : goal.returns
returns c =
    on_ok_weaker c.push-2.result
    (λ pushed ss h. table_template ss c.args.self.now
    (record { statuses = c.push.new.self; templates = c.push-2.new.self }) c.args.made
    c.len-number.result c.len-number.ensures c.in_ok-push.ensures.ok pushed h)
    c.push-2.ensures.ok
