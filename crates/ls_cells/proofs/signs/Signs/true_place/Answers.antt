use Rattle.std.proofs.Common.{arith}
use Rattle.ls_cells.proofs.PackedLemmas.{shows, none_true, true_at}
use Rattle.ls_cells.proofs.signs.Signs.true_place.Goals as goal

pub returns-in-None : goal.returns-in-None
returns-in-None c = none_true _ (shows c.self.invariant c.self.view_is) c.as_slice.ensures c.in-None.ensures

pub overflow_mul-result : goal.overflow_mul-result
overflow_mul-result c =
    let is = true_at _ c.in-Some.word c.in-Some.bit (shows c.self.invariant c.self.view_is) c.as_slice.ensures c.in-Some.ensures in
    omega (arith, is.0, c.len-len.ensures, c.len-len.type_inv)

pub overflow_add-result : goal.overflow_add-result
overflow_add-result c =
    let is = true_at _ c.in-Some.word c.in-Some.bit (shows c.self.invariant c.self.view_is) c.as_slice.ensures c.in-Some.ensures in
    omega (arith, is.0, c.len-len.ensures, c.len-len.type_inv)

pub returns-in-Some : goal.returns-in-Some
returns-in-Some c = true_at _ c.in-Some.word c.in-Some.bit (shows c.self.invariant c.self.view_is) c.as_slice.ensures c.in-Some.ensures
