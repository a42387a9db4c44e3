use Rattle.ls_arrays.proofs.ArrayLaw.{Decides-plain}
use Rattle.ls_arrays.proofs.regions.ArrayRegionsRegions.holds.Goals as goal

pub returns : goal.returns
returns c structures over class = Decides-plain c.args.atom.now c.args.object.now c.is_in.result c.is_in.ensures class
