use Rattle.std.proofs.Common.{arith}
use Rattle.ls_cells.proofs.PackedLemmas.{shows, within_is, outside_at}
use Rattle.ls_cells.proofs.JoinLemmas.{as_many_words}
use Rattle.ls_cells.proofs.signs.Signs.place_outside.Goals as goal

pub find_bit_outside-requires : goal.find_bit_outside-requires
find_bit_outside-requires c = as_many_words _ _ (shows c.self.invariant c.self.view_is) (shows c.other.invariant c.other.view_is) c.requires c.as_slice.ensures c.as_slice-2.ensures

pub returns-in-None : goal.returns-in-None
returns-in-None c = within_is _ _ (shows c.self.invariant c.self.view_is) (shows c.other.invariant c.other.view_is) c.as_slice.ensures c.as_slice-2.ensures c.in-None.ensures

pub overflow_mul-result : goal.overflow_mul-result
overflow_mul-result c =
    let is = outside_at _ _ c.in-Some.word c.in-Some.bit (shows c.self.invariant c.self.view_is) (shows c.other.invariant c.other.view_is) c.as_slice.ensures c.as_slice-2.ensures c.in-Some.ensures in
    omega (arith, is.0, c.len-len.ensures, c.len-len.type_inv)

pub overflow_add-result : goal.overflow_add-result
overflow_add-result c =
    let is = outside_at _ _ c.in-Some.word c.in-Some.bit (shows c.self.invariant c.self.view_is) (shows c.other.invariant c.other.view_is) c.as_slice.ensures c.as_slice-2.ensures c.in-Some.ensures in
    omega (arith, is.0, c.len-len.ensures, c.len-len.type_inv)

pub returns-in-Some : goal.returns-in-Some
returns-in-Some c = outside_at _ _ c.in-Some.word c.in-Some.bit (shows c.self.invariant c.self.view_is) (shows c.other.invariant c.other.view_is) c.as_slice.ensures c.as_slice-2.ensures c.in-Some.ensures
