use Rattle.std.proofs.Common.{◌≡◌, ◌++◌, ◌-◌, map}
use Rattle.std.specs.Prelude.{filter}
use Rattle.std.specs.List.{range_with_len}
use Rattle.ls_object.specs.declared.table.Code.{Code}
use Rattle.ls_object.specs.declared.table.TheConstants.{TABLE_LEN}
use Rattle.ls_tables.specs.Sets.{is_in}
use Rattle.ls_arrays.specs.Arrays.{codes_that}
use Rattle.ls_arrays.proofs.codes.push_all.Given as goal

abbrev pub invariant-loop-k : goal.invariant-loop-k
invariant-loop-k l =
    map (λ (c : Code). c.index) l.out ++ filter (λ k. is_in l.set.bits k) (range_with_len l.k (TABLE_LEN - l.k)) ≡ map (λ (c : Code). c.index) l.initial.out ++ codes_that (λ k. is_in l.set.bits k)
