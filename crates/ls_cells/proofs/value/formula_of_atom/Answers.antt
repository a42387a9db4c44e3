use Rattle.std.proofs.Common.{subst, ◌≡◌}
use Rattle.std.specs.Prelude.{MatchOption, Contains, slice_get, Some}
use Rattle.ls_cells.proofs.ValueLemmas.{atom_found, atom_missing}
use Rattle.ls_cells.proofs.value.formula_of_atom.Goals as goal

pub returns-in-None : goal.returns-in-None
returns-in-None c =
    atom_missing c.args.table.now c.len-distinct.ensures.distinct c.args.atoms.now c.args.id c.args.node.now c.requires.id c.requires.says c.requires.atom
    (subst (λ r. MatchOption r (¬ Contains c.args.atoms.now c.args.id) (λ i. slice_get c.args.atoms.now i ≡ Some c.args.id)) c.in-None.is c.place.ensures)

pub returns-in-Some : goal.returns-in-Some
returns-in-Some c =
    atom_found c.args.table.now c.args.atoms.now c.in-Some.place c.args.id
    (subst (λ r. MatchOption r (¬ Contains c.args.atoms.now c.args.id) (λ i. slice_get c.args.atoms.now i ≡ Some c.args.id)) c.in-Some.is c.place.ensures)
