-- The column of a specifier: what is evaluated at the columns of the atoms.
use Rattle.std.proofs.Common.{ℕ, ◌≡◌, ◌∙◌, ◌<◌, ap, arith, Bool, List, length}
use Rattle.std.specs.Prelude.{Some, slice_get}
use Rattle.std.proofs.lemmas.List.{length-map}
use Rattle.std.proofs.lemmas.Option.{slice_get_within}
use Rattle.ls_object.specs.Universe.{LispObject}
use Rattle.ls_spec.specs.Specifier.{Specifier}
use Rattle.ls_spec.specs.Atoms.{leaves}
use Rattle.ls_spec.specs.Truth.{Learnt, holds}
use Rattle.ls_cells.specs.declared.formula.Formula.{Formula}
use Rattle.ls_cells.specs.declared.rows.Row.{Row}
use Rattle.ls_cells.specs.Signs.{at, tabulate}
use Rattle.ls_cells.specs.Formulas.{holds_at, row_at}
use Rattle.ls_cells.specs.Rows.{signs_of}
use Rattle.ls_cells.specs.Cells.{signs_at}
use Rattle.ls_cells.specs.Columns.{columns_of}
use Rattle.ls_cells.specs.Values.{AreAmong, IsFormulaOf}
use Rattle.ls_cells.proofs.TabulateLemmas.{at-tabulate}
use Rattle.ls_cells.proofs.TurnLemmas.{row_back}

-- the value at the row of an object is whether the object belongs to the specifier
pub column_holds : (atoms : List Specifier) (n : ℕ) (s : Specifier) (f : Formula) (rows : List Row) (columns : List (List Bool)) (count : ℕ) (out : List Bool)
    → length atoms ≡ n → columns ≡ columns_of n rows → count ≡ length rows → IsFormulaOf atoms s f → out ≡ tabulate count (λ j. holds_at f (row_at columns j))
    → (learnt : Learnt) (o : LispObject) (j : ℕ) → AreAmong atoms (leaves s) → slice_get (signs_of rows) j ≡ Some (signs_at learnt atoms o) → at out j ≡ holds learnt s o
column_holds atoms n s f rows columns count out size turned many is e learnt o j among there =
    let q : List Bool = signs_at learnt atoms o in
    let within : j < length (signs_of rows) = slice_get_within (signs_of rows) j q there in
    let l : j < count = omega (arith, many, within, length-map rows (λ r. r.signs)) in
    ap (λ bs. at bs j) e ∙ at-tabulate count (λ i. holds_at f (row_at columns i)) j l
    ∙ ap (holds_at f) (row_back n rows columns j q turned there (length-map atoms (λ a. holds learnt a o) ∙ size)) ∙ is learnt o among
