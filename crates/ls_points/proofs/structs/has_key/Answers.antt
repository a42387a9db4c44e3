use Rattle.ls_points.proofs.StructLemmas.{Decides-looked_up}
use Rattle.ls_points.proofs.structs.has_key.Goals as goal

pub returns : goal.returns
returns c = λ names adds. Decides-looked_up c.args.keys.now.keys _ c.args.name.now c.contains.result names adds c.in_ok-key.ensures c.contains.ensures
