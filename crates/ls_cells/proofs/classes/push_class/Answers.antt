use Rattle.std.proofs.Common.{arith, map}
use Rattle.std.proofs.lemmas.Result.{on_ok_weaker}
use Rattle.ls_spec.specs.Meaning.{specifier}
use Rattle.ls_cells.specs.steps.Idle.{IsOf}
use Rattle.ls_cells.proofs.IdleLemmas.{adds_inside, class_flat}
use Rattle.ls_cells.proofs.classes.push_class.Goals as goal

pub returns-then-is_idle-clause-most : goal.returns-then-is_idle-clause-most
returns-then-is_idle-clause-most g c = omega (arith, c.push_idle.ensures.most, c.requires.room)

pub returns-then-is_idle-clause-rows : goal.returns-then-is_idle-clause-rows
returns-then-is_idle-clause-rows g c =
    on_ok_weaker c.push_idle.result (λ adds structures learnt over known.
    adds_inside structures learnt (map specifier c.args.atoms.now) (IsOf c.args.class) (g.R.Regions.IsOfClass c.args.regions.now) c.args.rows.now c.push_idle.new.rows c.requires.class (adds structures learnt))
    c.push_idle.ensures.rows

-- none of the classes has conses
pub push_reps-requires-clause-flat : goal.push_reps-requires-clause-flat
push_reps-requires-clause-flat g c = λ o h. class_flat c.args.class o (c.requires.class o h)
