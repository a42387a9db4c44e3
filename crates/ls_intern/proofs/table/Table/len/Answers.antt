use Rattle.std.proofs.Common.{length, ap, subst, arith}
use Rattle.ls_intern.specs.Places.{Distinct}
use Rattle.ls_intern.proofs.FillingLemmas.{specifiers_length}
use Rattle.ls_intern.proofs.table.Table.len.Goals as goal

pub returns-clause-len : goal.returns-clause-len
returns-clause-len c =
    let n = specifiers_length c.self.inside.nodes.items in
    let v = ap length c.self.view_is in
    omega (arith, c.len.ensures, c.self.inside.nodes.ok)

pub returns-clause-distinct : goal.returns-clause-distinct
returns-clause-distinct c = subst Distinct c.self.view_is c.self.invariant.distinct
