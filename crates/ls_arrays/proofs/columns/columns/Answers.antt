use Rattle.std.proofs.Common.{◌∷◌, ◌-◌, ◌+◌, [], arith, append_assoc}
use Rattle.ls_arrays.specs.steps.Representatives.{places_of, column, columns_from}
use Rattle.ls_arrays.proofs.CountLaw.{columns_step}
use Rattle.ls_arrays.proofs.columns.columns.Goals as goal

pub loop-place-preserved : goal.loop-place-preserved
loop-place-preserved c =
    let pss = places_of c.args.atoms.now in
    let e = columns_step c.args.rank c.loop-place.place pss (omega arith) in
    let f = append_assoc c.loop-place.out (column c.args.rank c.loop-place.place pss ∷ []) (columns_from c.args.rank (c.loop-place.place + 1) (c.args.rank - (c.loop-place.place + 1)) pss) in
    let h = c.loop-place.invariant in
    grind arith
