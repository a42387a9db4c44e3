use Rattle.std.proofs.Common.{◌+◌, sym, arith}
use Rattle.ls_io.proofs.CallNumbers.{list_any-above}
use Rattle.ls_io.proofs.counts.is_next_failing.Goals as goal

-- the next number is past those of its type
pub returns-in-None : goal.returns-in-None
returns-in-None c = sym (list_any-above c.args.failing.now (c.args.calls + 1) (λ k.
    omega (arith, c.type_inv.failing k, c.in-None.ensures)))
