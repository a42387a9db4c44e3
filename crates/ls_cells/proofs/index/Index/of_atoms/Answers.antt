use Rattle.std.proofs.Common.{map}
use Rattle.ls_spec.specs.Meaning.{specifier}
use Rattle.ls_cells.proofs.IndexLemmas.{index_none, index_more, atom_at}
use Rattle.ls_cells.proofs.index.Index.of_atoms.Goals as goal

pub loop-i-init : goal.loop-i-init
loop-i-init c = index_none (map specifier c.args.atoms.now) _ c.new.ensures c.new-2.ensures

pub loop-i-preserved : goal.loop-i-preserved
loop-i-preserved c =
    index_more (map specifier c.args.atoms.now) c.loop-i.i (specifier c.index-atoms-i.result) c.loop-i.index c.add.new.self
    (atom_at c.args.atoms.now c.loop-i.i c.index-atoms-i.result c.loop-i-test.true c.index-atoms-i.is) c.loop-i.invariant c.in_ok-add.ensures
