use Rattle.std.proofs.Common.{◌≡◌, take}
use Rattle.std.specs.List.{list_all, list_any}
use Rattle.ls_cells.specs.Signs.{tabulate}
use Rattle.ls_cells.specs.Formulas.{holds_at, row_at}
use Rattle.ls_cells.proofs.formula.+evaluate.Given as goal

abbrev pub invariant-evaluate_all-loop-part : goal.invariant-evaluate_all-loop-part
invariant-evaluate_all-loop-part l = l.out ≡ tabulate l.count (λ j. list_all (λ p. holds_at p (row_at l.columns j)) (take l.part-index l.parts))

abbrev pub invariant-evaluate_any-loop-part : goal.invariant-evaluate_any-loop-part
invariant-evaluate_any-loop-part l = l.out ≡ tabulate l.count (λ j. list_any (λ p. holds_at p (row_at l.columns j)) (take l.part-index l.parts))
