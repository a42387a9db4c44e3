use Rattle.std.proofs.Common.{Bool, ap, sym, ◌∙◌}
use Rattle.std.specs.Prelude.{if◌then◌else◌}
use Rattle.ls_env.specs.declared.status.NameStatus.TheVariants as status
use Rattle.ls_env.proofs.FinishLemmas.{status_by_mark}
use Rattle.ls_env.proofs.finishing.finished.Goals as goal

pub returns-then-is_marked : goal.returns-then-is_marked
returns-then-is_marked c = λ graph are numbered.
    let n = c.in-Deftype.number in
    sym (ap (λ (b : Bool). if b then status.Recursive else status.Deftype n) c.if-is_marked.true)
    ∙ status_by_mark graph c.args.marks.now n c.args.status c.is_marked.result c.in-Deftype.is c.is_marked.ensures are numbered

pub returns-else-is_marked : goal.returns-else-is_marked
returns-else-is_marked c = λ graph are numbered.
    let n = c.in-Deftype.number in
    sym (ap (λ (b : Bool). if b then status.Recursive else status.Deftype n) c.if-is_marked.false)
    ∙ status_by_mark graph c.args.marks.now n c.args.status c.is_marked.result c.in-Deftype.is c.is_marked.ensures are numbered
