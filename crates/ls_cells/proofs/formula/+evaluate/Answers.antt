use Rattle.std.proofs.Common.{◌≡◌, ◌∙◌, ℕ, Bool, subst, sym, ap, List, [], length, not, map, take, true}
use Rattle.std.specs.List.{list_all, list_any}
use Rattle.std.specs.Prelude.{IfOk, nat_le, nat_lt, ◌&&◌, ◌||◌}
use Rattle.std.proofs.lemmas.List.{get_or_default, take_all}
use Rattle.ls_cells.specs.Signs.{tabulate, at, zip_with}
use Rattle.ls_cells.specs.declared.formula.Formula.{Formula}
use Rattle.ls_cells.specs.Formulas.{holds_at, row_at}
use Rattle.ls_cells.proofs.FormulaLemmas.{holds_All, holds_Nothing, holds_And, holds_Or, holds_Not, holds_Atom}
use Rattle.ls_cells.proofs.ColumnLemmas.{with_same_values, in_all, in_none, column_is, no_column, all_more, any_more}
use Rattle.ls_cells.proofs.TabulateLemmas.{tabulate_same, length-tabulate, map_tabulate}
use Rattle.ls_cells.proofs.formula.+evaluate.Goals as goal

pub evaluate-returns-in-All : goal.evaluate-returns-in-All
evaluate-returns-in-All t c =
    with_same_values c.interval.result c.args.count (λ j. nat_le 0 j && nat_lt j c.args.count) (λ j. holds_at c.args.formula.now (row_at c.args.columns.now j)) (λ j l.
    in_all c.args.count j l ∙ sym (ap (λ s. holds_at s (row_at c.args.columns.now j)) c.in-All.is ∙ holds_All (row_at c.args.columns.now j))) c.interval.ensures

pub evaluate-returns-in-Nothing : goal.evaluate-returns-in-Nothing
evaluate-returns-in-Nothing t c =
    with_same_values c.interval-in-Nothing.result c.args.count (λ j. nat_le 0 j && nat_lt j 0) (λ j. holds_at c.args.formula.now (row_at c.args.columns.now j)) (λ j l.
    in_none j ∙ sym (ap (λ s. holds_at s (row_at c.args.columns.now j)) c.in-Nothing.is ∙ holds_Nothing (row_at c.args.columns.now j))) c.interval-in-Nothing.ensures

pub evaluate-returns-in-And : goal.evaluate-returns-in-And
evaluate-returns-in-And t c =
    with_same_values c.evaluate_all.result c.args.count (λ j. list_all (λ p. holds_at p (row_at c.args.columns.now j)) c.as_slice.result.now) (λ j. holds_at c.args.formula.now (row_at c.args.columns.now j)) (λ j l.
    ap (list_all (λ p. holds_at p (row_at c.args.columns.now j))) c.as_slice.ensures
    ∙ sym (ap (λ s. holds_at s (row_at c.args.columns.now j)) c.in-And.is ∙ holds_And (row_at c.args.columns.now j) c.in-And.parts)) c.evaluate_all.ensures

pub evaluate-returns-in-Or : goal.evaluate-returns-in-Or
evaluate-returns-in-Or t c =
    with_same_values c.evaluate_any.result c.args.count (λ j. list_any (λ p. holds_at p (row_at c.args.columns.now j)) c.as_slice-in-Or.result.now) (λ j. holds_at c.args.formula.now (row_at c.args.columns.now j)) (λ j l.
    ap (list_any (λ p. holds_at p (row_at c.args.columns.now j))) c.as_slice-in-Or.ensures
    ∙ sym (ap (λ s. holds_at s (row_at c.args.columns.now j)) c.in-Or.is ∙ holds_Or (row_at c.args.columns.now j) c.in-Or.parts)) c.evaluate_any.ensures

pub evaluate-returns-in_ok-out-in-Not : goal.evaluate-returns-in_ok-out-in-Not
evaluate-returns-in_ok-out-in-Not t c =
    c.negate.ensures ∙ ap (map not) c.in_ok-out-in-Not.ensures ∙ map_tabulate c.args.count _
    ∙ tabulate_same c.args.count (λ j. not (holds_at c.get.result.now (row_at c.args.columns.now j))) (λ j. holds_at c.args.formula.now (row_at c.args.columns.now j)) (λ j l.
    ap (λ s. not (holds_at s (row_at c.args.columns.now j))) c.get.ensures
    ∙ sym (ap (λ s. holds_at s (row_at c.args.columns.now j)) c.in-Not.is ∙ holds_Not (row_at c.args.columns.now j) c.in-Not.part))

pub evaluate-returns-then-i-columns : goal.evaluate-returns-then-i-columns
evaluate-returns-then-i-columns t c =
    let column = column_is c.args.columns.now c.args.count c.in-Atom.i c.if-i-columns.true (c.requires c.in-Atom.i [] c.if-i-columns.true) in
    let here = c.index-columns-i.is ∙ get_or_default c.args.columns.now c.in-Atom.i c.index-columns-i.result [] c.if-i-columns.true ∙ column in
    let held = tabulate_same c.args.count (λ j. at (row_at c.args.columns.now j) c.in-Atom.i) (λ j. holds_at c.args.formula.now (row_at c.args.columns.now j)) (λ j l.
    sym (ap (λ s. holds_at s (row_at c.args.columns.now j)) c.in-Atom.is ∙ holds_Atom (row_at c.args.columns.now j) c.in-Atom.i)) in
    subst (λ xs. IfOk c.copy.result (λ out. out ≡ xs)) (here ∙ held) c.copy.ensures

pub evaluate-returns-else-i-columns : goal.evaluate-returns-else-i-columns
evaluate-returns-else-i-columns t c =
    with_same_values c.interval-in-Atom.result c.args.count (λ j. nat_le 0 j && nat_lt j 0) (λ j. holds_at c.args.formula.now (row_at c.args.columns.now j)) (λ j l.
    in_none j ∙ sym (ap (λ s. holds_at s (row_at c.args.columns.now j)) c.in-Atom.is ∙ holds_Atom (row_at c.args.columns.now j) c.in-Atom.i ∙ no_column c.args.columns.now j c.in-Atom.i c.if-i-columns.false)) c.interval-in-Atom.ensures

pub evaluate_all-loop-part-init : goal.evaluate_all-loop-part-init
evaluate_all-loop-part-init t c = c.in_ok-out.ensures ∙ tabulate_same c.args.count _ (λ j. true) (λ j l. in_all c.args.count j l)

pub evaluate_all-and_with-requires : goal.evaluate_all-and_with-requires
evaluate_all-and_with-requires t c =
    ap length c.loop-part.invariant ∙ length-tabulate c.args.count (λ j. list_all (λ p. holds_at p (row_at c.args.columns.now j)) (take c.loop-part.part-index c.args.parts.now))
    ∙ sym (ap length c.in_ok-column.ensures ∙ length-tabulate c.args.count (λ j. holds_at c.part-item.result (row_at c.args.columns.now j)))

pub evaluate_all-loop-part-preserved : goal.evaluate_all-loop-part-preserved
evaluate_all-loop-part-preserved t c =
    let value : Formula → ℕ → Bool = λ p j. holds_at p (row_at c.args.columns.now j) in
    let n : ℕ = c.args.count in
    let i : ℕ = c.loop-part.part-index in
    let xs : List Formula = c.args.parts.now in
    c.and_with.ensures
    ∙ ap (λ old. zip_with (λ a b. a && b) old c.in_ok-column.column) c.loop-part.invariant
    ∙ ap (zip_with (λ a b. a && b) (tabulate n (λ j. list_all (λ p. value p j) (take i xs)))) (c.in_ok-column.ensures ∙ ap (λ p. tabulate n (value p)) c.part-item.is)
    ∙ all_more n value xs i c.part-item.result c.loop-part-test.true

pub evaluate_all-returns : goal.evaluate_all-returns
evaluate_all-returns t c =
    c.loop-part.invariant
    ∙ ap (λ xs. tabulate c.args.count (λ j. list_all (λ p. holds_at p (row_at c.args.columns.now j)) xs)) (take_all c.loop-part.part-index c.args.parts.now c.loop-part-test.false)

pub evaluate_any-or_with-requires : goal.evaluate_any-or_with-requires
evaluate_any-or_with-requires t c =
    ap length c.loop-part.invariant ∙ length-tabulate c.args.count (λ j. list_any (λ p. holds_at p (row_at c.args.columns.now j)) (take c.loop-part.part-index c.args.parts.now))
    ∙ sym (ap length c.in_ok-column.ensures ∙ length-tabulate c.args.count (λ j. holds_at c.part-item.result (row_at c.args.columns.now j)))

pub evaluate_any-loop-part-preserved : goal.evaluate_any-loop-part-preserved
evaluate_any-loop-part-preserved t c =
    let value : Formula → ℕ → Bool = λ p j. holds_at p (row_at c.args.columns.now j) in
    let n : ℕ = c.args.count in
    let i : ℕ = c.loop-part.part-index in
    let xs : List Formula = c.args.parts.now in
    c.or_with.ensures
    ∙ ap (λ old. zip_with (λ a b. a || b) old c.in_ok-column.column) c.loop-part.invariant
    ∙ ap (zip_with (λ a b. a || b) (tabulate n (λ j. list_any (λ p. value p j) (take i xs)))) (c.in_ok-column.ensures ∙ ap (λ p. tabulate n (value p)) c.part-item.is)
    ∙ any_more n value xs i c.part-item.result c.loop-part-test.true

pub evaluate_any-returns : goal.evaluate_any-returns
evaluate_any-returns t c =
    c.loop-part.invariant
    ∙ ap (λ xs. tabulate c.args.count (λ j. list_any (λ p. holds_at p (row_at c.args.columns.now j)) xs)) (take_all c.loop-part.part-index c.args.parts.now c.loop-part-test.false)
