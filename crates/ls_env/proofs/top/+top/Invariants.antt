use Rattle.std.proofs.Common.{◌≡◌, ◌++◌, map, drop}
use Rattle.ls_env.specs.TopLevel.{top_in}
use Rattle.ls_env.proofs.top.+top.Given as goal

abbrev pub invariant-push_from-loop-i : goal.invariant-push_from-loop-i
invariant-push_from-loop-i l =
    map (λ d. d.now) l.out ++ top_in (drop l.i l.forms) ≡ map (λ d. d.now) l.fn.out ++ top_in (drop l.from l.forms)
