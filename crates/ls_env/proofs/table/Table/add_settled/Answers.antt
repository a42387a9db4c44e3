use Rattle.std.proofs.Common.{refl}
use Rattle.std.proofs.lemmas.Result.{on_ok_weaker}
use Rattle.ls_env.proofs.TableLemmas.{table_settled}
use Rattle.ls_env.proofs.table.Table.add_settled.Goals as goal

pub returns : goal.returns
returns c =
    on_ok_weaker c.push.result
    (λ added ss h. table_settled ss c.args.self.now
    (record { statuses = c.push.new.self; templates = c.args.self.now.templates }) c.args.status added refl h)
    c.push.ensures.ok
