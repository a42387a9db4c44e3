use Rattle.std.proofs.Common.{sym, subst}
use Rattle.ls_object.specs.Inclusion.{IsInclusionOrder}
use Rattle.ls_cells.proofs.StoreLemmas.{store_none}
use Rattle.ls_cells.proofs.store.Store.new.Goals as goal

pub invariant_of-result : goal.invariant_of-result
invariant_of-result c = store_none c.new.result c.new-2.result _ _ _ (subst IsInclusionOrder (sym c.new.ensures) c.as_slice-order.ensures.order) c.new-3.ensures c.new-4.ensures.memo c.new-4.ensures.rows
