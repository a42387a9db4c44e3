use Rattle.std.proofs.Common.{ap, map, ◌++◌, arith}
use Rattle.ls_object.specs.declared.table.Code.{Code}
use Rattle.ls_object.specs.declared.table.TheConstants.{TABLE_LEN}
use Rattle.ls_tables.specs.Sets.{is_in}
use Rattle.ls_arrays.proofs.CodeLaw.{codes_is, push_more}
use Rattle.ls_arrays.proofs.codes.push_all.Goals as goal

pub loop-k-init : goal.loop-k-init
loop-k-init c = ap (λ xs. map (λ (k : Code). k.index) c.args.out.now ++ xs) (codes_is (λ k. is_in c.args.set.bits k))

pub loop-k-preserved : goal.loop-k-preserved
loop-k-preserved c =
    push_more (map (λ (k : Code). k.index) c.loop-k.out) (map (λ (k : Code). k.index) c.push_if.new.out) _ (λ k. is_in c.args.set.bits k) c.loop-k.k TABLE_LEN (omega arith) c.in_ok-push_if.ensures c.loop-k.invariant
