use Rattle.std.proofs.Common.{arith, ap, sym, subst, ◌∙◌, [], ◌∷◌}
use Rattle.std.specs.Option.{option_copied}
use Rattle.std.proofs.lemmas.Result.{on_ok_weaker}
use Rattle.ls_spec.specs.Atoms.{leaves}
use Rattle.ls_sides.specs.Gathering.{Gathers}
use Rattle.ls_sides.proofs.GatherLemmas.{below_at, gathers_whole}
use Rattle.ls_sides.proofs.NodeLemmas.{branches_below, branches_leaves, atom_leaves}
use Rattle.ls_sides.proofs.sides.+add_leaves.Goals as goal

pub add_leaves-requires : goal.add_leaves-requires
add_leaves-requires t c =
    let b = branches_below c.args.id c.node.result.now c.in-Some.parts.now c.node.ensures.before (sym c.branches.ensures ∙ ap option_copied c.in-Some.is) in
    let h = below_at c.args.id c.in-Some.parts.now c.loop-part.part-index b c.loop-part-test.true in
    (omega (arith, c.decreases), (omega (arith, c.requires.id), c.loop-part.invariant.below))

pub returns-after-loop-part : goal.returns-after-loop-part
returns-after-loop-part t c =
    let e = ap leaves (sym c.node.ensures.says) ∙ branches_leaves c.args.table.now c.node.result.now c.in-Some.parts.now (sym c.branches.ensures ∙ ap option_copied c.in-Some.is) in
    subst (Gathers c.args.table.now c.args.out.now c.loop-part.out) (sym e) (gathers_whole leaves c.args.table.now c.in-Some.parts.now c.loop-part.part-index _ _ (omega arith) c.loop-part.invariant)

pub returns-in-None : goal.returns-in-None
returns-in-None t c =
    let e = ap leaves (sym c.node.ensures.says) ∙ atom_leaves c.args.table.now c.node.result.now (sym c.branches.ensures ∙ ap option_copied c.in-None.is) ∙ ap (λ s. s ∷ []) c.node.ensures.says in
    on_ok_weaker _ (subst (Gathers c.args.table.now c.args.out.now _) (sym e)) c.add.ensures
