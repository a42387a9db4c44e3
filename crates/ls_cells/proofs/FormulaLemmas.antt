-- The value of a formula, kind by kind.
use Rattle.std.proofs.Common.{ℕ, ◌≡◌, ◌∙◌, sym, ap, refl, Bool, true, false, not, ◌||◌, List, [], ◌∷◌, map}
use Rattle.std.specs.List.{list_all, list_any}
use Rattle.std.proofs.lemmas.List.Folds.{list_all-map}
use Rattle.ls_cells.specs.Signs.{at}
use Rattle.ls_cells.specs.declared.formula.Formula.{Formula, roll-Formula, All, Nothing, And, Or, Not, Atom}
use Rattle.ls_cells.specs.declared.formula.Formula.TheOpen.{Formula-F}
use Rattle.ls_cells.specs.declared.formula.Formula.TheVariants.{rolls-All, rolls-Nothing, rolls-And, rolls-Or, rolls-Not, rolls-Atom}
use Rattle.ls_cells.specs.declared.formula.Formula.TheFolds.{map-Formula, fold-roll-Formula}
use Rattle.ls_cells.specs.Formulas.{holds_step, holds_at}

holds_roll : (d : Formula-F Formula) (row : List Bool) → holds_at (roll-Formula d) row ≡ holds_step (map-Formula Formula (List Bool → Bool) holds_at d) row
unfolding holds_at
holds_roll d row = ap (λ (f : List Bool → Bool). f row) (fold-roll-Formula (List Bool → Bool) holds_step d)

list_any_map : {X Y : Type 0} (p : Y → Bool) (f : X → Y) (xs : List X) → list_any p (map f xs) ≡ list_any (λ x. p (f x)) xs
list_any_map p f [] = refl
list_any_map p f (x ∷ xs) = ap (λ b. p (f x) || b) (list_any_map p f xs)

module _ (row : List Bool) where
  same : {s t : Formula} → s ≡ t → holds_at t row ≡ holds_at s row
  same e = ap (λ s. holds_at s row) (sym e)

  pub holds_All : holds_at All row ≡ true
  holds_All = same rolls-All ∙ holds_roll Formula-F.All row

  pub holds_Nothing : holds_at Nothing row ≡ false
  holds_Nothing = same rolls-Nothing ∙ holds_roll Formula-F.Nothing row

  pub holds_And : (parts : List Formula) → holds_at (And parts) row ≡ list_all (λ p. holds_at p row) parts
  holds_And parts = same (rolls-And parts) ∙ holds_roll (Formula-F.And parts) row ∙ list_all-map (λ p. p row) holds_at parts

  pub holds_Or : (parts : List Formula) → holds_at (Or parts) row ≡ list_any (λ p. holds_at p row) parts
  holds_Or parts = same (rolls-Or parts) ∙ holds_roll (Formula-F.Or parts) row ∙ list_any_map (λ p. p row) holds_at parts

  pub holds_Not : (part : Formula) → holds_at (Not part) row ≡ not (holds_at part row)
  holds_Not part = same (rolls-Not part) ∙ holds_roll (Formula-F.Not part) row

  pub holds_Atom : (i : ℕ) → holds_at (Atom i) row ≡ at row i
  holds_Atom i = same (rolls-Atom i) ∙ holds_roll (Formula-F.Atom i) row
