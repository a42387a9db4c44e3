use Rattle.std.proofs.Common.{◌≡◌, [], arith}
use Rattle.std.proofs.lemmas.Grind.{common_steps}
use Rattle.ls_tables.specs.Sets.{is_in}
use Rattle.ls_arrays.specs.Arrays.{codes_that}
use Rattle.ls_arrays.proofs.CodeLaw.{no_first, one_first}
use Rattle.ls_arrays.proofs.codes.push_least.Goals as goal

pub returns-in-None : goal.returns-in-None
returns-in-None c = let e : codes_that (λ k. is_in c.args.set.bits k) ≡ [] = no_first c.args.set.bits c.in-None.ensures in rw e (grind (arith, common_steps))

pub returns-in_ok-push_code-in-Some : goal.returns-in_ok-push_code-in-Some
returns-in_ok-push_code-in-Some c = let e = one_first c.args.set.bits c.in-Some.k c.in-Some.ensures in rw e c.in_ok-push_code-in-Some.ensures
