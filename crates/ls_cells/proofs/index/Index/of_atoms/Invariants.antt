use Rattle.std.proofs.Common.{map}
use Rattle.ls_spec.specs.Meaning.{specifier}
use Rattle.ls_cells.specs.steps.Index.{IsIndexOf}
use Rattle.ls_cells.proofs.index.Index.of_atoms.Given as goal

abbrev pub invariant-loop-i : goal.invariant-loop-i
invariant-loop-i l = IsIndexOf (map specifier l.atoms) l.i l.index
